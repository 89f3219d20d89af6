use Rattle.std.proofs.Common.{◌≡◌, ℕ, ◌-◌, List, ◌++◌, length, take, drop, sym, ap, ◌∙◌, append_assoc, take-append-drop}
use Rattle.std.proofs.lemmas.List.{take_rest}
use Rattle.std.proofs.KnownBytes.{Appends-trans}
use Rattle.pool_engines.proofs.outgoing.write_whole.Goals as goal

-- the prefix, once n more bytes are written
front_more : (all front rest : List ℕ) (n : ℕ) → all ≡ front ++ rest → all ≡ (front ++ take n rest) ++ take (length rest - n) (drop n rest)
front_more all front rest n e =
    e ∙ ap (λ l. front ++ l) (sym (take-append-drop n rest)) ∙ sym (append_assoc front (take n rest) (drop n rest)) ∙ ap (λ l. (front ++ take n rest) ++ l) (sym (take_rest rest n))

pub loop-rest-preserved : goal.loop-rest-preserved
loop-rest-preserved g c =
    let (front, parts, written) = c.loop-rest.invariant.got in
    let rest = c.loop-rest.rest.now in
    let n = c.in-Ok.count in
    record {
      got = (front ++ take n rest, front_more _ front rest n parts, Appends-trans _ _ _ _ _ written c.in-Ok.ensures.bytes);
      works = c.in-Ok.ensures.reported ∙ c.loop-rest.invariant.works;
    }
