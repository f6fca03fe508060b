-- Sixteen pairs at most, of bytes: the bytes decide, which are the same numbers.
use Rattle.std.proofs.Common.{ap, sym, ◌∙◌, ◌&&◌, List, ℕ, rules}
use Rattle.rules.specs.Lent.{pairs_of, pairs_in}
use Rattle.rules.specs.Replies.{pairs_plain}
use Rattle.foreign.proofs.Bytes.{fit_whole}
use Rattle.foreign.proofs.promise.packed.Goals as goal

pub returns-then-not-pairs_in : goal.returns-then-not-pairs_in
returns-then-not-pairs_in c =
    let k = c.args.count in
    let same = c.narrowed-bytes.ensures ∙ fit_whole 32 c.args.pairs (search rules) in
    sym (ap (λ (l : List ℕ). pairs_in (pairs_of k l) && pairs_plain k l) same) ∙ sym c.pairs_in.ensures ∙ c.if-not-pairs_in.true

pub returns : goal.returns
returns c =
    let k = c.args.count in
    let same = c.narrowed-bytes.ensures ∙ fit_whole 32 c.args.pairs (search rules) in
    (sym (ap (λ (l : List ℕ). pairs_in (pairs_of k l) && pairs_plain k l) same) ∙ sym c.pairs_in.ensures ∙ c.if-not-pairs_in.false, same)
