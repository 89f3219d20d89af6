use Rattle.std.proofs.Common.{is_ok, refl, sym, ap, ◌∙◌}
use Rattle.pool_cli.proofs.line_kind.kind_of.Goals as goal

pub returns-then-is_ok : goal.returns-then-is_ok
returns-then-is_ok c = rw (sym (c.is_ok.ensures.value ∙ ap is_ok c.read_head.ensures.exact) ∙ c.if-is_ok.true) refl

pub returns-then-is_ok-2 : goal.returns-then-is_ok-2
returns-then-is_ok-2 c =
    let no_head = sym (c.is_ok.ensures.value ∙ ap is_ok c.read_head.ensures.exact) ∙ c.if-is_ok.false in
    let request = sym (c.is_ok-else-is_ok.ensures.value ∙ ap is_ok c.read_input.ensures.exact) ∙ c.if-is_ok-2.true in
    rw (no_head, request) refl

pub returns-then-is_ok-3 : goal.returns-then-is_ok-3
returns-then-is_ok-3 c =
    let no_head = sym (c.is_ok.ensures.value ∙ ap is_ok c.read_head.ensures.exact) ∙ c.if-is_ok.false in
    let no_request = sym (c.is_ok-else-is_ok.ensures.value ∙ ap is_ok c.read_input.ensures.exact) ∙ c.if-is_ok-2.false in
    let entry = sym (c.is_ok-else-is_ok-2.ensures.value ∙ ap is_ok c.read_entry.ensures.exact) ∙ c.if-is_ok-3.true in
    rw (no_head, no_request, entry) refl

pub returns-then-ends_with_return : goal.returns-then-ends_with_return
returns-then-ends_with_return c =
    let no_head = sym (c.is_ok.ensures.value ∙ ap is_ok c.read_head.ensures.exact) ∙ c.if-is_ok.false in
    let no_request = sym (c.is_ok-else-is_ok.ensures.value ∙ ap is_ok c.read_input.ensures.exact) ∙ c.if-is_ok-2.false in
    let no_entry = sym (c.is_ok-else-is_ok-2.ensures.value ∙ ap is_ok c.read_entry.ensures.exact) ∙ c.if-is_ok-3.false in
    rw (no_head, no_request, no_entry, sym c.ends_with_return.ensures ∙ c.if-ends_with_return.true) refl

pub returns-else-ends_with_return : goal.returns-else-ends_with_return
returns-else-ends_with_return c =
    let no_head = sym (c.is_ok.ensures.value ∙ ap is_ok c.read_head.ensures.exact) ∙ c.if-is_ok.false in
    let no_request = sym (c.is_ok-else-is_ok.ensures.value ∙ ap is_ok c.read_input.ensures.exact) ∙ c.if-is_ok-2.false in
    let no_entry = sym (c.is_ok-else-is_ok-2.ensures.value ∙ ap is_ok c.read_entry.ensures.exact) ∙ c.if-is_ok-3.false in
    rw (no_head, no_request, no_entry, sym c.ends_with_return.ensures ∙ c.if-ends_with_return.false) refl
