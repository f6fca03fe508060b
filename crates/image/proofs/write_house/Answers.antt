-- Writing a house record: each part behind those before it.
use mathlib.Core.Path.{◌≡◌, ap, ◌∙◌}
use mathlib.Core.List.{List, [], ◌∷◌, ◌++◌}
use Prim.Native.Nat.{ℕ}
use native.Mathlib.Omega.{arith}
use lib.ListN.{length, length-append}
use Rattle.rules.specs.Lent.{patch}
use Rattle.image.specs.Image.{two, scans, counts, image}
use Rattle.image.proofs.Writing.{pasted, then, joined, length-scans}
use borrow.Author.Rules.{rules}
use Rattle.image.proofs.write_house.Goals as goal

pub returns : goal.returns
unfolding image
returns c =
    let s = c.args.out.now in
    let h = c.args.h in
    let lq : length h.quorums ≡ 64 = search rules in
    let lw : length h.weaks ≡ 64 = search rules in
    let ls = length-scans h.stations h.serials 64 in
    let to71 = then s (counts h) h.quorums 0 7 c.write_counts.ensures (c.put_bytes.ensures ∙ pasted _ h.quorums 7 64 lq) (omega arith) (omega arith) in
    let to135 = then s (counts h ++ h.quorums) h.weaks 0 71 to71 (c.put_bytes-2.ensures ∙ pasted _ h.weaks 71 64 lw) (omega arith) (omega arith) in
    let to136 = then s ((counts h ++ h.quorums) ++ h.weaks) (h.tubes ∷ []) 0 135 to135 c.write_u8.ensures (simp length-append (omega arith)) (omega arith) in
    let to456 = then s (((counts h ++ h.quorums) ++ h.weaks) ++ (h.tubes ∷ [])) (scans h.stations h.serials 64) 0 136 to136 c.write_scans.ensures (simp length-append (omega arith)) (omega arith) in
    let to457 = then s ((((counts h ++ h.quorums) ++ h.weaks) ++ (h.tubes ∷ [])) ++ scans h.stations h.serials 64) (h.marks ∷ []) 0 456 to456 c.write_u8-2.ensures (simp length-append (omega arith)) (omega arith) in
    let whole = then s (((((counts h ++ h.quorums) ++ h.weaks) ++ (h.tubes ∷ [])) ++ scans h.stations h.serials 64) ++ (h.marks ∷ [])) (two h.count) 0 457 to457 c.write_u16.ensures (simp length-append (omega arith)) (omega arith) in
    whole ∙ ap (λ (x : List ℕ). patch s 0 x) (joined (counts h) h.quorums h.weaks (h.tubes ∷ []) (scans h.stations h.serials 64) (h.marks ∷ []) (two h.count))
