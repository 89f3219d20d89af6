-- Parts that are appended in turn.
use Rattle.std.proofs.Common.{◌≡◌, ℕ, List, ◌++◌, ap, ◌∙◌, append_assoc}
use Rattle.pool_journal.specs.Appending.{Extends}

pub extends_more : {a b c : List ℕ} → Extends a b → Extends b c → Extends a c
extends_more {a} first next =
    record {
      tail = first.tail ++ next.tail;
      parts = next.parts ∙ ap (λ l. l ++ next.tail) first.parts
          ∙ append_assoc a first.tail next.tail;
    }

pub extends_six : {a b c d e f g : List ℕ} → Extends a b → Extends b c → Extends c d → Extends d e → Extends e f → Extends f g
    → Extends a g
extends_six p q r s t u = extends_more (extends_more (extends_more (extends_more (extends_more p q) r) s) t) u

-- nine parts, one after the other
pub nine_parts : (a l1 l2 l3 l4 l5 l6 l7 l8 l9 b1 b2 b3 b4 b5 b6 b7 b8 b9 : List ℕ) → b1 ≡ a ++ l1 → b2 ≡ b1 ++ l2 → b3 ≡ b2 ++ l3
    → b4 ≡ b3 ++ l4 → b5 ≡ b4 ++ l5
    → b6 ≡ b5 ++ l6 → b7 ≡ b6 ++ l7 → b8 ≡ b7 ++ l8 → b9 ≡ b8 ++ l9 → b9 ≡ a ++ (l1 ++ l2 ++ l3 ++ l4 ++ l5 ++ l6 ++ l7 ++ l8 ++ l9)
nine_parts a l1 l2 l3 l4 l5 l6 l7 l8 l9 b1 b2 b3 b4 b5 b6 b7 b8 b9 e1 e2 e3 e4 e5 e6 e7 e8 e9 =
    rw (e9, e8, e7, e6, e5, e4, e3, e2, e1) (simp (append_assoc))
