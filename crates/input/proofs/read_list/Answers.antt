-- Filling a list: each turn takes four bytes more from the input.
use Rattle.std.proofs.Common.{rules, ◌≡◌, ◌+◌, ◌++◌, flat_map, take, add-one, subst, sym, ℕ, List}
use Rattle.std.specs.Int.{w32, to_le_bytes}
use Rattle.std.specs.Io.KnownBytes.{Consumes}
use Rattle.std.proofs.KnownBytes.{Consumes-trans}
use Rattle.std.proofs.lemmas.Grind.{flat_map-append}
use Rattle.std.proofs.Math.Seq.{take-suc-set}
use lib.ListN.{set}
use Rattle.input.proofs.read_list.Goals as goal

pub loop-entry-preserved : goal.loop-entry-preserved
loop-entry-preserved g c =
    let l = c.loop-entry in
    let left = g.R.Read.remaining in
    let bytes = c.read_exact.new.buf in
    let x = c.number.result in
    let i = l.entry-index in
    let before : List ℕ = flat_map (to_le_bytes w32) (take i l.entry-items) in
    let all : flat_map (to_le_bytes w32) (take (i + 1) (set l.entry-items i x)) ≡ before ++ bytes =
    rw (add-one, take-suc-set l.entry-items i x (search rules), flat_map-append, c.number.ensures) in
    subst (λ (t : List ℕ). Consumes (left c.args.input.now) (left c.read_exact.new.self) t) (sym all)
    (Consumes-trans (left c.args.input.now) (left l.input) (left c.read_exact.new.self) before bytes l.invariant c.in_ok-read_exact.ensures.bytes)
