-- An engine on its way through a stream.
use Rattle.std.proofs.Common.{◌≡◌, ℕ, ◌+◌, ◌*◌, ◌<◌, ◌≤◌, true, false, List, [], ◌++◌, length, take, drop, length-append, length-drop, length-take, arith, Option, Some, None, Result, Ok, Err, IfSome, unwrap_or, refl, sym, ap, ◌∙◌, subst, append_assoc, append-nil, take-append-drop}
use Rattle.std.specs.Io.KnownBytes.{Appends, Consumes, IsAtEnd, Keeps}
use Rattle.std.proofs.KnownBytes.{Appends-trans, Consumes-trans, Consumes-kept, Consumes-nil, Appends-nil}
use Rattle.std.proofs.lemmas.Bool.{false≢true}
use Rattle.pool_engines.specs.Handing.{AppendsFront}
use Rattle.std.specs.Prelude.{Contains}
use Rattle.pool_journal.specs.Appending.{longest_line}
use Rattle.pool_journal.specs.Text.{line_feed}
use Rattle.pool_engines.specs.Faults.{is_read_failure, is_write_failure}
use Rattle.pool_engines.specs.Leaving.{most_bytes, read_ahead}
use Rattle.pool_engines.specs.Engine.{AppendsOutput, WritesOutput, Passes}
use Rattle.pool_engines.specs.declared.engine_fault.EngineFault.{EngineFault}
use Rattle.pool_engines.specs.declared.engine_fault.EngineFault.TheVariants.{Line, Full, OutOfMemory, Read, Write}

-- the output was written, except for what is buffered
abbrev pub Gave : List ℕ → Option (List ℕ) → Option (List ℕ) → List ℕ → Type 0
Gave reported held written buffered = (sent : List ℕ) × (reported ≡ sent ++ buffered) × Appends held written sent

-- if the reader failed, the bytes that are left contain no whole line
abbrev pub LeavesNoLine : Result (Unit {0}) EngineFault → List ℕ → Type 0
LeavesNoLine result pending = is_read_failure result ≡ true → ¬ Contains pending line_feed

pub leaves_other : (result : Result (Unit {0}) EngineFault) (pending : List ℕ) → is_read_failure result ≡ false → LeavesNoLine result pending
leaves_other result pending other = λ reported. absurd (false≢true (sym other ∙ reported))

-- more output
pub Gave-more : (reported held_reported : List ℕ) (held written : Option (List ℕ)) (before after words : List ℕ) → Gave reported held written before → after ≡ before ++ words → held_reported ≡ reported ++ words → Gave held_reported held written after
Gave-more reported new held written before after words (sent, parts, given) grown is = (sent, is ∙ ap (λ l. l ++ words) parts ∙ append_assoc sent before words ∙ ap (λ l. sent ++ l) (sym grown), given)

-- some of the buffered output is written
pub Gave-sent : (reported : List ℕ) (held mid written : Option (List ℕ)) (before after more : List ℕ) → Gave reported held mid before → before ≡ more ++ after → Appends mid written more → Gave reported held written after
Gave-sent reported held mid written before after more (sent, parts, given) e more_given = (sent ++ more, parts ∙ ap (λ l. sent ++ l) e ∙ sym (append_assoc sent more after), Appends-trans held mid written sent more given more_given)

-- the writer fails
pub Gave-failed : (reported : List ℕ) (held mid written : Option (List ℕ)) (buffered : List ℕ) → Gave reported held mid buffered → AppendsFront mid written buffered → AppendsFront held written reported
Gave-failed reported held mid written buffered (sent, parts, given) (front, rest, e, more_given) = (sent ++ front, rest, parts ∙ ap (λ l. sent ++ l) e ∙ sym (append_assoc sent front rest), Appends-trans held mid written sent front given more_given)

-- the bytes that are left, if they are known
abbrev pub left : Option (List ℕ) → List ℕ
left known = unwrap_or known []

-- the known bytes are those that were consumed, and what is left
pub IfSome-consumed : (known now : Option (List ℕ)) (taken pending : List ℕ) → Consumes known now (taken ++ pending) → IfSome known (λ bytes. bytes ≡ taken ++ (pending ++ left now))
IfSome-consumed None now taken pending h = tt
IfSome-consumed (Some xs) None taken pending h = absurd h
IfSome-consumed (Some xs) (Some ys) taken pending h = h ∙ append_assoc taken pending ys

-- at the end nothing is left
pub left-at_end : (now : Option (List ℕ)) → IsAtEnd now → left now ≡ []
left-at_end None h = refl
left-at_end (Some xs) h = h

-- a line is taken: the bytes of those taken, and those that the lines still left can have
pub took_short : (before after begun : ℕ) (old new shown : List ℕ) (count : ℕ) → length old + longest_line * before ≤ longest_line * begun → new ≡ old ++ take count shown
    → count ≤ longest_line → after < before → length new + longest_line * after ≤ longest_line * begun
took_short before after begun old new shown count short is line fewer =
    omega (arith, short, ap length is, length-append old (take count shown), length-take count shown, line, fewer)

-- more is read, at most the bytes of some of the lines still left, and of one more
pub refilled : (taken pending left lines begun : ℕ) → taken + longest_line * left ≤ longest_line * begun → lines ≤ left → pending ≤ most_bytes lines
    → taken + pending ≤ most_bytes begun
refilled taken pending left lines begun short fewer within = omega (arith, short, fewer, within)

module _ {E F : Type 0} (settings : E → F) (taken reported : E → List ℕ) (active : E → Type 0) (is_partial : List ℕ → Type 0) (ends : E → List ℕ → Result (Unit {0}) EngineFault → Type 0) (most : ℕ) (begun : E) (known held : Option (List ℕ)) where
  pub record Going (engine : E) (now written : Option (List ℕ)) (pending buffered : List ℕ) : Type 0 where
    pub standing : active engine
    pub same : settings engine ≡ settings begun
    pub took : Consumes known now (taken engine ++ pending)
    pub ahead : length pending ≤ read_ahead
    pub within : length (taken engine) + length pending ≤ most
    pub gave : Gave (reported engine) held written buffered

  WritesOutput-gave : (result : Result (Unit {0}) EngineFault) (engine : E) (written : Option (List ℕ)) (buffered : List ℕ) → Gave (reported engine) held written buffered → WritesOutput settings taken reported active is_partial ends result engine held written buffered
  WritesOutput-gave (Ok u) engine written buffered h = h
  WritesOutput-gave (Err (Line n f)) engine written buffered h = h
  WritesOutput-gave (Err (Full n)) engine written buffered h = h
  WritesOutput-gave (Err OutOfMemory) engine written buffered h = h
  WritesOutput-gave (Err Read) engine written buffered h = h
  WritesOutput-gave (Err Write) engine written buffered (sent, parts, given) = (sent, buffered, parts, given)

  -- the engine ends before the pending bytes
  pub Passes-ended : (result : Result (Unit {0}) EngineFault) (old new : E) (now written : Option (List ℕ)) (pending before after shown : List ℕ) → Going old now written pending before → LeavesNoLine result pending → shown ≡ pending
      → taken new ≡ taken old → AppendsOutput settings taken reported active is_partial ends old new before after → ((more : List ℕ) → ends new (shown ++ more) result)
      → Passes settings taken reported active is_partial ends most result begun new known now held written after
  Passes-ended result old new now written pending before after shown going leaves all same (words, grown, is, stay) ended = record {
    rest = pending ++ left now;
    same = stay ∙ going.same;
    stream = IfSome-consumed known now (taken new) pending (subst (λ l. Consumes known now (l ++ pending)) (sym same) going.took);
    leaves = (pending, subst (λ l. Consumes known now (l ++ pending)) (sym same) going.took, going.ahead, leaves, omega (arith, going.within, ap length same));
    ended = subst (λ l. ends new (l ++ left now) result) all (ended (left now));
    gave = WritesOutput-gave result new written after (Gave-more (reported old) (reported new) held written before after words going.gave grown is);
  }

  -- the engine is stopped
  pub Passes-stopped : (result : Result (Unit {0}) EngineFault) (engine : E) (now written : Option (List ℕ)) (pending buffered : List ℕ) → Going engine now written pending buffered → LeavesNoLine result pending
      → ((rest : List ℕ) → ends engine rest result) → Passes settings taken reported active is_partial ends most result begun engine known now held written buffered
  Passes-stopped result engine now written pending buffered going leaves ended =
      Passes-ended result engine engine now written pending buffered buffered pending going leaves refl refl ([], sym (append-nil buffered), sym (append-nil (reported engine)), refl) (λ more. ended (pending ++ more))

  -- the writer fails
  pub Passes-failed : (engine : E) (now mid written : Option (List ℕ)) (pending before after : List ℕ) → Going engine now mid pending before → AppendsFront mid written before
      → ((rest : List ℕ) → ends engine rest (Err Write)) → Passes settings taken reported active is_partial ends most (Err Write) begun engine known now held written after
  Passes-failed engine now mid written pending before after going failed ended = record {
    rest = pending ++ left now;
    same = going.same;
    stream = IfSome-consumed known now (taken engine) pending going.took;
    leaves = (pending, going.took, going.ahead, (λ reported. absurd (false≢true reported)), going.within);
    ended = ended (pending ++ left now);
    gave = Gave-failed (reported engine) held mid written before going.gave failed;
  }

  -- a line is taken
  pub Going-took : (old new : E) (now written : Option (List ℕ)) (pending before after shown : List ℕ) (count : ℕ) → Going old now written pending before → shown ≡ pending
      → active new → taken new ≡ taken old ++ take count shown → AppendsOutput settings taken reported active is_partial ends old new before after → Going new now written (drop count pending) after
  Going-took old new now written pending before after shown count going all standing is (words, grown, reported_is, stay) = record {
    standing = standing;
    same = stay ∙ going.same;
    took = subst (Consumes known now) (ap (λ l. taken old ++ l) (sym (take-append-drop count pending)) ∙ sym (append_assoc (taken old) (take count pending) (drop count pending)) ∙ ap (λ l. l ++ drop count pending) (sym (is ∙ ap (λ l. taken old ++ take count l) all))) going.took;
    ahead = omega (arith, length-drop count pending, going.ahead);
    within = omega (arith, ap length is, length-append (taken old) (take count shown), ap (λ l. length (take count l)) all, length-take count pending, length-drop count pending, going.within);
    gave = Gave-more (reported old) (reported new) held written before after words going.gave grown reported_is;
  }

  -- some of the buffered output is written
  pub Going-sent : (engine : E) (now mid written : Option (List ℕ)) (pending before after sent : List ℕ) → Going engine now mid pending before → before ≡ sent ++ after → Appends mid written sent
      → Going engine now written pending after
  Going-sent engine now mid written pending before after sent going parts given = record {
    standing = going.standing;
    same = going.same;
    took = going.took;
    ahead = going.ahead;
    within = going.within;
    gave = Gave-sent (reported engine) held mid written before after sent going.gave parts given;
  }

  -- all of the buffered output is written
  pub Going-emptied : (engine : E) (now mid written : Option (List ℕ)) (pending before after : List ℕ) → Going engine now mid pending before → after ≡ [] → Appends mid written before
      → Going engine now written pending after
  Going-emptied engine now mid written pending before after going empty given =
      Going-sent engine now mid written pending before after before going (sym (ap (λ l. before ++ l) empty ∙ append-nil before)) given

  -- more was read
  pub Going-filled : (engine : E) (old now written : Option (List ℕ)) (before after more buffered : List ℕ) → Going engine old written before buffered → after ≡ before ++ more → length after ≤ read_ahead → length (taken engine) + length after ≤ most → Consumes old now more
      → Going engine now written after buffered
  Going-filled engine old now written before after more buffered going grown ahead within came = record {
    standing = going.standing;
    same = going.same;
    took = subst (Consumes known now) (append_assoc (taken engine) before more ∙ ap (λ l. taken engine ++ l) (sym grown)) (Consumes-trans known old now (taken engine ++ before) more going.took came);
    ahead = ahead;
    within = within;
    gave = going.gave;
  }

  -- the reader does not advance
  pub Going-kept : (engine : E) (old now written : Option (List ℕ)) (pending buffered : List ℕ) → Going engine old written pending buffered → Keeps old now
      → Going engine now written pending buffered
  Going-kept engine old now written pending buffered going kept = record {
    standing = going.standing;
    same = going.same;
    took = Consumes-kept known old now (taken engine ++ pending) going.took kept;
    ahead = going.ahead;
    within = going.within;
    gave = going.gave;
  }

  -- the stream is at its end
  pub Passes-finished : (result : Result (Unit {0}) EngineFault) (old new : E) (now written : Option (List ℕ)) (pending before after shown : List ℕ) → Going old now written pending before → LeavesNoLine result pending → shown ≡ pending → IsAtEnd now
      → taken new ≡ taken old → AppendsOutput settings taken reported active is_partial ends old new before after → ends new shown result
      → Passes settings taken reported active is_partial ends most result begun new known now held written after
  Passes-finished result old new now written pending before after shown going leaves all at_end same (words, grown, is, stay) ended = record {
    rest = pending ++ left now;
    same = stay ∙ going.same;
    stream = IfSome-consumed known now (taken new) pending (subst (λ l. Consumes known now (l ++ pending)) (sym same) going.took);
    leaves = (pending, subst (λ l. Consumes known now (l ++ pending)) (sym same) going.took, going.ahead, leaves, omega (arith, going.within, ap length same));
    ended = subst (λ l. ends new l result) (sym (ap (λ l. pending ++ l) (left-at_end now at_end) ∙ append-nil pending ∙ sym all)) ended;
    gave = WritesOutput-gave result new written after (Gave-more (reported old) (reported new) held written before after words going.gave grown is);
  }

  -- nothing is changed
  pub Going-same : (old new : E) (now written : Option (List ℕ)) (pending before after : List ℕ) → Going old now written pending before → new ≡ old → after ≡ before → Going new now written pending after
  Going-same old new now written pending before after going same stays =
      subst (λ l. Going new now written pending l) (sym stays) (subst (λ e. Going e now written pending before) (sym same) going)

  -- an engine that begins
  pub Going-begun : active begun → taken begun ≡ [] → reported begun ≡ [] → Going begun known held [] []
  Going-begun standing none_taken none_reported = record {
    standing = standing;
    same = refl;
    took = subst (Consumes known known) (sym (append-nil (taken begun) ∙ none_taken)) (Consumes-nil known);
    ahead = omega arith;
    within = omega (arith, ap length none_taken);
    gave = ([], none_reported, Appends-nil held);
  }

  WritesOutput-handed : (result : Result (Unit {0}) EngineFault) (engine : E) (mid written : Option (List ℕ)) (buffered : List ℕ) → is_write_failure result ≡ false → WritesOutput settings taken reported active is_partial ends result engine held mid buffered → Appends mid written buffered
      → WritesOutput settings taken reported active is_partial ends result engine held written []
  WritesOutput-handed (Ok u) engine mid written buffered works h given = Gave-sent (reported engine) held mid written buffered [] buffered h (sym (append-nil buffered)) given
  WritesOutput-handed (Err (Line n f)) engine mid written buffered works h given = Gave-sent (reported engine) held mid written buffered [] buffered h (sym (append-nil buffered)) given
  WritesOutput-handed (Err (Full n)) engine mid written buffered works h given = Gave-sent (reported engine) held mid written buffered [] buffered h (sym (append-nil buffered)) given
  WritesOutput-handed (Err OutOfMemory) engine mid written buffered works h given = Gave-sent (reported engine) held mid written buffered [] buffered h (sym (append-nil buffered)) given
  WritesOutput-handed (Err Read) engine mid written buffered works h given = Gave-sent (reported engine) held mid written buffered [] buffered h (sym (append-nil buffered)) given
  WritesOutput-handed (Err Write) engine mid written buffered works h given = absurd (false≢true (sym works))

  Gave-from : (result : Result (Unit {0}) EngineFault) (engine : E) (written : Option (List ℕ)) (buffered : List ℕ) → is_write_failure result ≡ false → WritesOutput settings taken reported active is_partial ends result engine held written buffered → Gave (reported engine) held written buffered
  Gave-from (Ok u) engine written buffered works h = h
  Gave-from (Err (Line n f)) engine written buffered works h = h
  Gave-from (Err (Full n)) engine written buffered works h = h
  Gave-from (Err OutOfMemory) engine written buffered works h = h
  Gave-from (Err Read) engine written buffered works h = h
  Gave-from (Err Write) engine written buffered works h = absurd (false≢true (sym works))

  -- the buffered output is written at the end
  pub Passes-handed : (result : Result (Unit {0}) EngineFault) (engine : E) (now mid written : Option (List ℕ)) (buffered : List ℕ) → is_write_failure result ≡ false → Passes settings taken reported active is_partial ends most result begun engine known now held mid buffered → Appends mid written buffered
      → Passes settings taken reported active is_partial ends most result begun engine known now held written []
  Passes-handed result engine now mid written buffered works p given = record { rest = p.rest; same = p.same; stream = p.stream; leaves = p.leaves; ended = p.ended; gave = WritesOutput-handed result engine mid written buffered works p.gave given }

  -- the writer fails at the end
  pub Passes-unhanded : (result : Result (Unit {0}) EngineFault) (engine : E) (now mid written : Option (List ℕ)) (buffered : List ℕ) → is_write_failure result ≡ false → Passes settings taken reported active is_partial ends most result begun engine known now held mid buffered → AppendsFront mid written buffered
      → ((rest : List ℕ) → ends engine rest result → ends engine rest (Err Write)) → Passes settings taken reported active is_partial ends most (Err Write) begun engine known now held written []
  Passes-unhanded result engine now mid written buffered works p failed fails = record { rest = p.rest; same = p.same; stream = p.stream; leaves = (p.leaves.0, p.leaves.1, p.leaves.2, (λ reported. absurd (false≢true reported)), p.leaves.4); ended = fails p.rest p.ended; gave = Gave-failed (reported engine) held mid written buffered (Gave-from result engine mid buffered works p.gave) failed }

  -- the writer had failed before
  pub Passes-broken : (result : Result (Unit {0}) EngineFault) (engine : E) (now written : Option (List ℕ)) (buffered : List ℕ) → is_write_failure result ≡ true → Passes settings taken reported active is_partial ends most result begun engine known now held written buffered
      → Passes settings taken reported active is_partial ends most result begun engine known now held written []
  Passes-broken (Ok u) engine now written buffered broken p = absurd (false≢true broken)
  Passes-broken (Err (Line n f)) engine now written buffered broken p = absurd (false≢true broken)
  Passes-broken (Err (Full n)) engine now written buffered broken p = absurd (false≢true broken)
  Passes-broken (Err OutOfMemory) engine now written buffered broken p = absurd (false≢true broken)
  Passes-broken (Err Read) engine now written buffered broken p = absurd (false≢true broken)
  Passes-broken (Err Write) engine now written buffered broken p = record { rest = p.rest; same = p.same; stream = p.stream; leaves = p.leaves; ended = p.ended; gave = p.gave }
