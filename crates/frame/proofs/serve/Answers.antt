-- Each kind of call does what its name says, and its reply is told in numbers.
use Rattle.std.proofs.Common.{refl}
use Rattle.frame.proofs.Serving.{opening, step, row, book}
use Rattle.frame.proofs.serve.Goals as goal

pub returns-in-Opening : goal.returns-in-Opening
returns-in-Opening c =
    let a = c.args in
    opening a.pairs a.quorums.now a.weaks.now a.book.now a.waiting.now c.in-Opening.is (c.into.ensures, refl) c.open.ensures

pub returns-in-Step : goal.returns-in-Step
returns-in-Step c =
    let a = c.args in
    step a.pairs a.quorums.now a.weaks.now a.book.now a.waiting.now c.in-Step.is (c.into-in-Step.ensures, refl) c.take.ensures

pub returns-in-Row : goal.returns-in-Row
returns-in-Row c =
    let a = c.args in
    row a.pairs a.quorums.now a.weaks.now a.book.now a.waiting.now c.in-Row.is (c.into-in-Row.ensures, refl) c.ask.ensures

pub returns-in-Book : goal.returns-in-Book
returns-in-Book c =
    let a = c.args in
    book a.pairs a.quorums.now a.weaks.now c.in-Book.is (c.into-in-Book.ensures, refl) (c.book.ensures, refl)
