-- A chain after a change of links.
use Rattle.std.proofs.Common.{◌≡◌, ◌≢◌, ℕ, zero, suc, ◌≤◌, true, false, eqb, List, [], ◌∷◌, ◌++◌, length, Option, Some, None, IfSome, unwrap_or, refl, sym, ap, ◌∙◌, inl, inr, subst, arith}
use Rattle.std.proofs.lemmas.Bool.{eqb-false}
use Rattle.std.proofs.lemmas.Bool.Decides.{eqb_tells}
use Rattle.pool_journal.specs.Queue.{first_of, last_of}
use Rattle.pool_slots.specs.SlotsModel.{is_in, without, put_before, AreDistinct}
use Rattle.pool_slots.specs.Links.{Linked, IsChain, Leads, walk}
use Rattle.pool_slots.proofs.Keys.{neither, is_in_first, is_in_later, without_none}

abbrev pub Links : Type 0
Links = Option ℕ → Option ℕ

-- ---- the two ends, and the walk
pub chain_first : (a b : Links) (p : Option ℕ) (xs : List ℕ) → IsChain a b p xs None → a p ≡ first_of xs
chain_first a b p [] chain = chain.forward
chain_first a b p (x ∷ xs) chain = chain.0.forward

-- the second position leads back to the first
pub chain_begins : (a b : Links) (p : Option ℕ) (xs : List ℕ) (e : Option ℕ) → IsChain a b p xs e → b (a p) ≡ p
chain_begins a b p [] e chain = ap b chain.forward ∙ chain.backward
chain_begins a b p (x ∷ xs) e chain = ap b chain.0.forward ∙ chain.0.backward

-- the position before the last leads to the last
pub chain_ends : (a b : Links) (p : Option ℕ) (xs : List ℕ) (e : Option ℕ) → IsChain a b p xs e → a (b e) ≡ e
chain_ends a b p [] e chain = ap a chain.backward ∙ chain.forward
chain_ends a b p (x ∷ xs) e chain = chain_ends a b (Some x) xs e chain.1

-- a walk goes along a chain
pub walk-chain : (a b : Links) (p : Option ℕ) (xs : List ℕ) (n : ℕ) → IsChain a b p xs None → length xs ≤ n → walk a (a p) n ≡ xs
walk-chain a b p [] n chain few = ap (λ o. walk a o n) chain.forward
walk-chain a b p (x ∷ xs) zero chain few = absurd (omega arith)
walk-chain a b p (x ∷ xs) (suc n) chain few =
    ap (λ o. walk a o (suc n)) chain.0.forward ∙ ap (λ ys. x ∷ ys) (walk-chain a b (Some x) xs n chain.1 (omega arith))

-- ---- neighbours
-- the last key after p, or p if there is none
abbrev ending : Option ℕ → Option ℕ → Option ℕ
ending None p = p
ending (Some x) p = Some x

ending_cons : (o : Option ℕ) (x : ℕ) (p : Option ℕ) → ending o (Some x) ≡ ending (Some (unwrap_or o x)) p
ending_cons None x p = refl
ending_cons (Some y) x p = refl

ending_none : (o : Option ℕ) → ending o None ≡ o
ending_none None = refl
ending_none (Some x) = refl

last_behind : (a b : Links) (p : Option ℕ) (xs : List ℕ) (e : Option ℕ) → IsChain a b p xs e → b e ≡ ending (last_of xs) p
last_behind a b p [] e chain = chain.backward
last_behind a b p (x ∷ xs) e chain = last_behind a b (Some x) xs e chain.1 ∙ ending_cons (last_of xs) x p

pub chain_last : (a b : Links) (xs : List ℕ) (e : Option ℕ) → IsChain a b None xs e → b e ≡ last_of xs
chain_last a b xs e chain = last_behind a b None xs e chain ∙ ending_none (last_of xs)

-- a chain up to one of its keys
chain_front : (a b : Links) (p : Option ℕ) (front : List ℕ) (key : ℕ) (back : List ℕ) (e : Option ℕ) → IsChain a b p (front ++ key ∷ back) e → IsChain a b p front (Some key)
chain_front a b p [] key back e chain = chain.0
chain_front a b p (x ∷ xs) key back e chain =
    (chain.0, chain_front a b (Some x) xs key back e chain.1)

-- a chain from one of its keys on
chain_back : (a b : Links) (p : Option ℕ) (front : List ℕ) (key : ℕ) (back : List ℕ) (e : Option ℕ) → IsChain a b p (front ++ key ∷ back) e → IsChain a b (Some key) back e
chain_back a b p [] key back e chain = chain.1
chain_back a b p (x ∷ xs) key back e chain = chain_back a b (Some x) xs key back e chain.1

pub chain_after : (a b : Links) (front : List ℕ) (key : ℕ) (back : List ℕ) → IsChain a b None (front ++ key ∷ back) None → a (Some key) ≡ first_of back
chain_after a b front key back chain =
    chain_first a b (Some key) back (chain_back a b None front key back None chain)

pub chain_before : (a b : Links) (front : List ℕ) (key : ℕ) (back : List ℕ) → IsChain a b None (front ++ key ∷ back) None → b (Some key) ≡ last_of front
chain_before a b front key back chain =
    chain_last a b front (Some key) (chain_front a b None front key back None chain)

-- ---- changes
-- links that are the same everywhere make the same chain
pub chain_same : (a b a2 b2 : Links) → ((p : Option ℕ) → a2 p ≡ a p) → ((p : Option ℕ) → b2 p ≡ b p) → (p : Option ℕ) (xs : List ℕ) (e : Option ℕ) → IsChain a b p xs e → IsChain a2 b2 p xs e
chain_same a b a2 b2 forth back p [] e chain =
    record { forward = forth p ∙ chain.forward; backward = back e ∙ chain.backward }
chain_same a b a2 b2 forth back p (x ∷ xs) e chain =
    (record { forward = forth p ∙ chain.0.forward; backward = back (Some x) ∙ chain.0.backward }, chain_same a b a2 b2 forth back (Some x) xs e chain.1)

-- neighbours other than the key stay linked
abbrev pub Stay : Links → Links → Links → Links → ℕ → Type 0
Stay a b a2 b2 key =
    (p n : Option ℕ) → p ≢ Some key → n ≢ Some key → Linked a b p n → Linked a2 b2 p n

pub some_apart : (key x : ℕ) → eqb key x ≡ false → Some x ≢ Some key
some_apart key x apart same = let e : key ≡ x = cc in eqb-false key x apart e

pub none_apart : (key : ℕ) → None ≢ Some key
none_apart key same = cc

-- a chain that the key isn't in stays
pub chain_stays : (a b a2 b2 : Links) (key : ℕ) → Stay a b a2 b2 key → (p : Option ℕ) (xs : List ℕ) (e : Option ℕ) → p ≢ Some key → e ≢ Some key → is_in key xs ≡ false → IsChain a b p xs e → IsChain a2 b2 p xs e
chain_stays a b a2 b2 key stay p [] e from to out chain = stay p e from to chain
chain_stays a b a2 b2 key stay p (x ∷ xs) e from to out chain =
    let apart = neither (eqb key x) (is_in key xs) out in
    let here = some_apart key x apart.0 in
    (stay p (Some x) from here chain.0, chain_stays a b a2 b2 key stay (Some x) xs e here to apart.1 chain.1)

-- the neighbours of a key of a chain lead to it
pub record Around (a b : Links) (P : Option ℕ → Type 0) (key : ℕ) : Type 0 where
  pub to_key : a (b (Some key)) ≡ Some key
  pub back_to_key : b (a (Some key)) ≡ Some key
  pub before_is : P (b (Some key))
  pub after_is : P (a (Some key))

next_is : (a b : Links) (P : Option ℕ → Type 0) (p : Option ℕ) (xs : List ℕ) (e : Option ℕ) → IsChain a b p xs e → P e → ((x : ℕ) → is_in x xs ≡ true → P (Some x)) → P (a p)
next_is a b P p [] e chain last each = subst P (sym chain.forward) last
next_is a b P p (x ∷ xs) e chain last each =
    subst P (sym chain.0.forward) (each x (is_in_first x xs))

-- a property of p and of all keys holds of the position before the end
pub end_is : (a b : Links) (P : Option ℕ → Type 0) (p : Option ℕ) (xs : List ℕ) (e : Option ℕ) → IsChain a b p xs e → P p → ((x : ℕ) → is_in x xs ≡ true → P (Some x)) → P (b e)
end_is a b P p [] e chain first each = subst P (sym chain.backward) first
end_is a b P p (x ∷ xs) e chain first each =
    end_is a b P (Some x) xs e chain.1 (each x (is_in_first x xs)) (λ y found. each y (is_in_later y x xs found))

around_first : (a b : Links) (P : Option ℕ → Type 0) (p : Option ℕ) (x : ℕ) (xs : List ℕ) (e : Option ℕ) → IsChain a b p (x ∷ xs) e → P p → P e → ((y : ℕ) → is_in y (x ∷ xs) ≡ true → P (Some y)) → Around a b P x
around_first a b P p x xs e chain first last each = record {
  to_key = ap a chain.0.backward ∙ chain.0.forward;
  back_to_key = chain_begins a b (Some x) xs e chain.1;
  before_is = subst P (sym chain.0.backward) first;
  after_is = next_is a b P (Some x) xs e chain.1 last (λ y found. each y (is_in_later y x xs found));
}

pub around : (a b : Links) (P : Option ℕ → Type 0) (key : ℕ) (p : Option ℕ) (xs : List ℕ) (e : Option ℕ) → IsChain a b p xs e → is_in key xs ≡ true → P p → P e → ((x : ℕ) → is_in x xs ≡ true → P (Some x)) → Around a b P key
around a b P key p [] e chain found first last each = absurd (cc)
around a b P key p (x ∷ xs) e chain found first last each =
    elim (eqb_tells key x) [
      | inl same ↦
          subst (λ k. Around a b P k) (sym same.1) (around_first a b P p x xs e chain first last each)
      | inr differs ↦
          around a b P key (Some x) xs e chain.1 (rw differs.0 at found) (each x (is_in_first x xs)) last (λ y later. each y (is_in_later y x xs later))
    ]

-- the key's neighbours are joined
pub record Joined (a b a2 b2 : Links) (key : ℕ) : Type 0 where
  pub forward : Leads a a2 (b (Some key)) (a (Some key))
  pub backward : Leads b b2 (a (Some key)) (b (Some key))

joined_stay : (a b a2 b2 : Links) (P : Option ℕ → Type 0) (key : ℕ) → Around a b P key → Joined a b a2 b2 key → Stay a b a2 b2 key
joined_stay a b a2 b2 P key here joined p n from to linked = record {
  forward =
      joined.forward.others p (λ same. to (sym linked.forward ∙ ap a same ∙ here.to_key)) ∙ linked.forward;
  backward =
      joined.backward.others n (λ same. from (sym linked.backward ∙ ap b same ∙ here.back_to_key)) ∙ linked.backward;
}

-- the key's neighbours, p and n, are linked afterwards
joined_linked : (a b a2 b2 : Links) (key : ℕ) → Joined a b a2 b2 key → (p n : Option ℕ) → b (Some key) ≡ p → a (Some key) ≡ n → Linked a2 b2 p n
joined_linked a b a2 b2 key joined p n before after = record {
  forward = ap a2 (sym before) ∙ joined.forward.changed ∙ after;
  backward = ap b2 (sym after) ∙ joined.backward.changed ∙ before;
}

joined_here : (a b a2 b2 : Links) (key : ℕ) → Stay a b a2 b2 key → Joined a b a2 b2 key → (p : Option ℕ) (xs : List ℕ) (e : Option ℕ) → e ≢ Some key → is_in key xs ≡ false → b (Some key) ≡ p → IsChain a b (Some key) xs e → IsChain a2 b2 p xs e
joined_here a b a2 b2 key stay joined p [] e to out before chain =
    joined_linked a b a2 b2 key joined p e before chain.forward
joined_here a b a2 b2 key stay joined p (x ∷ xs) e to out before chain =
    let apart = neither (eqb key x) (is_in key xs) out in
    (joined_linked a b a2 b2 key joined p (Some x) before chain.0.forward, chain_stays a b a2 b2 key stay (Some x) xs e (some_apart key x apart.0) to apart.1 chain.1)

-- a chain whose key left it, when its neighbours are joined
chain_joined : (a b a2 b2 : Links) (key : ℕ) → Stay a b a2 b2 key → Joined a b a2 b2 key → (p : Option ℕ) (xs : List ℕ) (e : Option ℕ) → p ≢ Some key → e ≢ Some key → AreDistinct xs → is_in key xs ≡ true → IsChain a b p xs e → IsChain a2 b2 p (without key xs) e
chain_joined a b a2 b2 key stay joined p [] e from to distinct found chain = absurd (cc)
chain_joined a b a2 b2 key stay joined p (x ∷ xs) e from to distinct found chain =
    elim (eqb_tells key x) [
      | inl same ↦
          let out : is_in key xs ≡ false = ap (λ k. is_in k xs) same.1 ∙ distinct.0 in
          let before : b (Some key) ≡ p = ap (λ k. b (Some k)) same.1 ∙ chain.0.backward in
          let later : IsChain a b (Some key) xs e = subst (λ k. IsChain a b (Some k) xs e) (sym same.1) chain.1 in
          rw (same.0, without_none key xs out) (joined_here a b a2 b2 key stay joined p xs e to out before later)
      | inr differs ↦
          let here = some_apart key x differs.0 in
          rw differs.0 (stay p (Some x) from here chain.0, chain_joined a b a2 b2 key stay joined (Some x) xs e here to distinct.1 (rw differs.0 at found) chain.1)
    ]

pub chain_without : (a b a2 b2 : Links) (P : Option ℕ → Type 0) (key : ℕ) → Around a b P key → Joined a b a2 b2 key → (xs : List ℕ) → AreDistinct xs → is_in key xs ≡ true → IsChain a b None xs None → IsChain a2 b2 None (without key xs) None
chain_without a b a2 b2 P key here joined xs distinct found chain =
    chain_joined a b a2 b2 key (joined_stay a b a2 b2 P key here joined) joined None xs None (none_apart key) (none_apart key) distinct found chain

-- the key is joined to the last one, and then to the end
pub record Appended (a b a1 b1 a2 b2 : Links) (key : ℕ) : Type 0 where
  pub forward : Leads a a1 (b None) (Some key)
  pub backward : Leads b b1 (Some key) (b None)
  pub to_end : Leads a1 a2 (Some key) None
  pub from_end : Leads b1 b2 None (Some key)

appended_new : (a b a1 b1 a2 b2 : Links) (key : ℕ) → Appended a b a1 b1 a2 b2 key → (p : Option ℕ) → p ≢ Some key → b None ≡ p → Linked a2 b2 p (Some key)
appended_new a b a1 b1 a2 b2 key done p from last = record {
  forward = done.to_end.others p from ∙ ap a1 (sym last) ∙ done.forward.changed;
  backward =
      done.from_end.others (Some key) (λ same. none_apart key (sym same)) ∙ done.backward.changed ∙ last;
}

chain_appended : (a b a1 b1 a2 b2 : Links) (key : ℕ) → Appended a b a1 b1 a2 b2 key → a (b None) ≡ None → (p : Option ℕ) (xs : List ℕ) → p ≢ Some key → is_in key xs ≡ false → IsChain a b p xs None → IsChain a2 b2 p (xs ++ key ∷ []) None
chain_appended a b a1 b1 a2 b2 key done ends p [] from out chain =
    (appended_new a b a1 b1 a2 b2 key done p from chain.backward, record { forward = done.to_end.changed; backward = done.from_end.changed })
chain_appended a b a1 b1 a2 b2 key done ends p (x ∷ xs) from out chain =
    let apart = neither (eqb key x) (is_in key xs) out in
    let here = some_apart key x apart.0 in
    let inner : p ≢ b None = λ same. none_apart x (sym ends ∙ ap a (sym same) ∙ chain.0.forward) in
    let linked : Linked a2 b2 p (Some x) = record {
      forward = done.to_end.others p from ∙ done.forward.others p inner ∙ chain.0.forward;
      backward =
          done.from_end.others (Some x) (λ same. none_apart x (sym same)) ∙ done.backward.others (Some x) here ∙ chain.0.backward;
    } in
    (linked, chain_appended a b a1 b1 a2 b2 key done ends (Some x) xs here apart.1 chain.1)

pub chain_push : (a b a1 b1 a2 b2 : Links) (key : ℕ) → Appended a b a1 b1 a2 b2 key → (xs : List ℕ) → is_in key xs ≡ false → IsChain a b None xs None → IsChain a2 b2 None (xs ++ key ∷ []) None
chain_push a b a1 b1 a2 b2 key done xs out chain =
    chain_appended a b a1 b1 a2 b2 key done (chain_ends a b None xs None chain) None xs (none_apart key) out chain

-- the key is joined to the position before n, and then to n
pub record Between (a b a1 b1 a2 b2 : Links) (key : ℕ) (n : Option ℕ) : Type 0 where
  pub forward : Leads a a1 (b n) (Some key)
  pub backward : Leads b b1 (Some key) (b n)
  pub to_next : Leads a1 a2 (Some key) n
  pub from_next : Leads b1 b2 n (Some key)

-- neighbours stay linked if the second isn't n
between_stays : (a b a1 b1 a2 b2 : Links) (key : ℕ) (n : Option ℕ) → Between a b a1 b1 a2 b2 key n → a (b n) ≡ n → (p m : Option ℕ) → p ≢ Some key → m ≢ Some key → m ≢ n → Linked a b p m → Linked a2 b2 p m
between_stays a b a1 b1 a2 b2 key n done ends p m from to apart linked = record {
  forward =
      done.to_next.others p from ∙ done.forward.others p (λ same. apart (sym linked.forward ∙ ap a same ∙ ends)) ∙ linked.forward;
  backward = done.from_next.others m apart ∙ done.backward.others m to ∙ linked.backward;
}

-- so does a chain that n isn't in
between_beyond : (a b a1 b1 a2 b2 : Links) (key k : ℕ) → Between a b a1 b1 a2 b2 key (Some k) → a (b (Some k)) ≡ Some k → (p : Option ℕ) (xs : List ℕ) → p ≢ Some key → is_in key xs ≡ false → is_in k xs ≡ false → IsChain a b p xs None → IsChain a2 b2 p xs None
between_beyond a b a1 b1 a2 b2 key k done ends p [] from out alone chain =
    between_stays a b a1 b1 a2 b2 key (Some k) done ends p None from (none_apart key) (none_apart k) chain
between_beyond a b a1 b1 a2 b2 key k done ends p (x ∷ xs) from out alone chain =
    let apart = neither (eqb key x) (is_in key xs) out in
    let other = neither (eqb k x) (is_in k xs) alone in
    let here = some_apart key x apart.0 in
    (between_stays a b a1 b1 a2 b2 key (Some k) done ends p (Some x) from here (some_apart k x other.0) chain.0, between_beyond a b a1 b1 a2 b2 key k done ends (Some x) xs here apart.1 other.1 chain.1)

between_new : (a b a1 b1 a2 b2 : Links) (key : ℕ) (n : Option ℕ) → Between a b a1 b1 a2 b2 key n → (p : Option ℕ) → p ≢ Some key → n ≢ Some key → b n ≡ p → Linked a2 b2 p (Some key)
between_new a b a1 b1 a2 b2 key n done p from to before = record {
  forward = done.to_next.others p from ∙ ap a1 (sym before) ∙ done.forward.changed;
  backward = done.from_next.others (Some key) (λ same. to (sym same)) ∙ done.backward.changed ∙ before;
}

chain_between : (a b a1 b1 a2 b2 : Links) (key k : ℕ) → Between a b a1 b1 a2 b2 key (Some k) → a (b (Some k)) ≡ Some k → Some k ≢ Some key → (p : Option ℕ) (xs : List ℕ) → p ≢ Some key → is_in key xs ≡ false → is_in k xs ≡ true → AreDistinct xs → IsChain a b p xs None → IsChain a2 b2 p (put_before (Some k) key xs) None
chain_between a b a1 b1 a2 b2 key k done ends to p [] from out found distinct chain = absurd (cc)
chain_between a b a1 b1 a2 b2 key k done ends to p (x ∷ xs) from out found distinct chain =
    let apart = neither (eqb key x) (is_in key xs) out in
    let here = some_apart key x apart.0 in
    elim (eqb_tells k x) [
      | inl same ↦
          let before : b (Some k) ≡ p = ap (λ y. b (Some y)) same.1 ∙ chain.0.backward in
          let linked : Linked a2 b2 (Some key) (Some k) = record { forward = done.to_next.changed; backward = done.from_next.changed } in
          let alone : is_in k xs ≡ false = ap (λ y. is_in y xs) same.1 ∙ distinct.0 in
          rw same.0 (between_new a b a1 b1 a2 b2 key (Some k) done p from to before, (subst (λ y. Linked a2 b2 (Some key) (Some y)) same.1 linked, between_beyond a b a1 b1 a2 b2 key k done ends (Some x) xs here apart.1 alone chain.1))
      | inr differs ↦
          rw differs.0 (between_stays a b a1 b1 a2 b2 key (Some k) done ends p (Some x) from here (some_apart k x differs.0) chain.0, chain_between a b a1 b1 a2 b2 key k done ends to (Some x) xs here apart.1 (rw differs.0 at found) distinct.1 chain.1)
    ]

put_end : (key : ℕ) (keys : List ℕ) → put_before None key keys ≡ keys ++ key ∷ []
put_end key [] = refl
put_end key (x ∷ xs) = ap (λ ys. x ∷ ys) (put_end key xs)

chain_at_end : (a b a1 b1 a2 b2 : Links) (key : ℕ) → Between a b a1 b1 a2 b2 key None → (xs : List ℕ) → is_in key xs ≡ false → IsChain a b None xs None → IsChain a2 b2 None (put_before None key xs) None
chain_at_end a b a1 b1 a2 b2 key done xs out chain =
    let end : Appended a b a1 b1 a2 b2 key = record { forward = done.forward; backward = done.backward; to_end = done.to_next; from_end = done.from_next } in
    subst (λ ys. IsChain a2 b2 None ys None) (sym (put_end key xs)) (chain_push a b a1 b1 a2 b2 key end xs out chain)

-- a chain with the key inserted right before n
pub chain_put : (a b a1 b1 a2 b2 : Links) (key : ℕ) (n : Option ℕ) → Between a b a1 b1 a2 b2 key n → (xs : List ℕ) → is_in key xs ≡ false → IfSome n (λ k. is_in k xs ≡ true) → AreDistinct xs → IsChain a b None xs None → IsChain a2 b2 None (put_before n key xs) None
chain_put a b a1 b1 a2 b2 key None done xs out found distinct chain = chain_at_end a b a1 b1 a2 b2 key done xs out chain
chain_put a b a1 b1 a2 b2 key (Some k) done xs out found distinct chain =
    let ends = (around a b (λ p. Unit {0}) k None xs None chain found tt tt (λ x there. tt)).to_key in
    let apart : Some k ≢ Some key = λ same. let e : k ≡ key = cc same in cc (found, out, ap (λ y. is_in y xs) e) in
    chain_between a b a1 b1 a2 b2 key k done ends apart None xs (none_apart key) out found distinct chain
