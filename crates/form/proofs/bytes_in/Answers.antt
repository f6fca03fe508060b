-- Each byte has only bits of its own.
use borrow.Author.Rules.{rules}
use borrow.Author.Tests.{tests}
use lib.ListN.{length}
use Rattle.tables.proofs.Chains.{below_says}
use Rattle.form.specs.Form.{byte_in}
use Rattle.form.proofs.bytes_in.Goals as goal

pub returns : goal.returns
returns c =
    let a = c.args in
    below_says (byte_in a.heard.now a.these.now) (length a.heard.now) _ _ _ c.all.ensures.ran (cc) (λ x b q k. search (rules, tests))
