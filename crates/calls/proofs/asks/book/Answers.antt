-- The book is the gate, its own areas tested with the others, and then what is written.
use Rattle.std.proofs.Common.{◌≡◌, ap, sym, ◌∙◌, Bool, ℕ}
use Rattle.std.proofs.lemmas.Result.{err_from_is_err_and}
use Rattle.rules.specs.Tests.{first}
use Rattle.rules.specs.Lent.{lent}
use Rattle.rules.specs.Replies.{bare}
use Rattle.rules.proofs.Named.{positive}
use Rattle.form.specs.Form.{gate_of}
use Rattle.tell.specs.Past.{BookDid}
use Rattle.tell.proofs.Past.{book_refused}
use Rattle.calls.proofs.asks.book.Goals as goal

pub returns-in_err-gate_with : goal.returns-in_err-gate_with
returns-in_err-gate_with c =
    let a = c.args in
    let p = err_from_is_err_and c.from_residual.result c.from_residual.ensures.1 in
    let e = c.in_err-gate_with.ensures.number ∙ ap (λ (x : Bool). first (gate_of (lent a.m) x)) c.areas_ok.ensures in
    rw (p.1, p.2) (rw (sym e) at (book_refused (lent a.m) a.rows.now a.waiting.now (λ z. positive _ (e ∙ z))))
