-- Writing a reply: each number behind those before it, and the house image behind them.
use mathlib.Core.Path.{◌≡◌}
use mathlib.Core.List.{[], ◌∷◌, ◌++◌}
use Prim.Native.Nat.{◌-◌}
use native.Mathlib.Omega.{arith}
use lib.ListN.{length}
use Rattle.rules.proofs.Area.{part_patch}
use Rattle.image.specs.Image.{four, image}
use Rattle.image.proofs.Writing.{then, length-image}
use Rattle.frame.specs.Frame.{reply_of}
use borrow.Author.Rules.{rules}
use Rattle.frame.proofs.writing.reply.Goals as goal

pub returns : goal.returns
unfolding reply_of
returns c =
    let sets : (length c.args.house.quorums ≡ 64) × (length c.args.house.weaks ≡ 64) =
    (search rules, search rules) in
    let s = c.args.out.now in
    let a = c.args.answer in
    let h = c.args.house in
    let l = length-image h (sets).0 (sets).1 in
    let to5 = then s (a.number ∷ []) (four a.value) 0 1 c.write_u8.ensures (rw c.from.ensures at c.write_u32.ensures) (omega arith) (omega arith) in
    let to9 = then s (a.number ∷ four a.value) (four a.waiting) 0 5 to5 (rw c.from-2.ensures at c.write_u32-2.ensures) (omega arith) (omega arith) in
    let to13 = then s (a.number ∷ (four a.value ++ four a.waiting)) (four a.stopped) 0 9 to9 (rw c.from-3.ensures at c.write_u32-3.ensures) (omega arith) (omega arith) in
    let t = c.write_u32-3.new.out in
    let n = length t - 13 in
    then s (a.number ∷ (four a.value ++ (four a.waiting ++ four a.stopped))) (image h) 0 13 to13 (rw c.write_house.ensures (part_patch t (image h) 13 n (omega arith) (omega arith))) (omega arith) (omega arith)
