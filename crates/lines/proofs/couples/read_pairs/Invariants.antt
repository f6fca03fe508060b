-- `read_pairs` meets its contract: each turn reads one part of the text, and the pairs of the rest follow those in hand.
use Rattle.std.proofs.Common.{◌≡◌, length, drop}
use Rattle.lines.specs.Splits.{parts}
use Rattle.lines.specs.Grammar.{pairs_of}
use Rattle.lines.proofs.Listing.{Reading}
use Rattle.lines.proofs.couples.read_pairs.Given as goal

abbrev pub invariant-loop-part : goal.invariant-loop-part
invariant-loop-part l = Reading (pairs_of l.s) (drop l.count (parts 44 l.s)) l.count l.pairs × (l.count ≡ length l.yielded)
