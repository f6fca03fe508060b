-- A message stands on a plain board just where its bytes stand there.
use mathlib.Core.Path.{◌≡◌, refl, ap, sym, ◌∙◌}
use mathlib.Core.Bool.{true, false, ◌||◌}
use mathlib.Core.List.{List, [], ◌++◌, append-nil}
use Prim.Native.Nat.{ℕ, zero, suc, ◌*◌, ◌≤◌}
use native.Mathlib.Omega.{arith}
use lib.Dec.{T}
use lib.ListN.{length, drop_of_length-le}
use lib.Seq.{take_all}
use Rattle.rules.specs.Tests.{all_below, eqs}
use Rattle.rules.specs.Words.{Msg, m2av, m2b, same_msg}
use Rattle.rules.specs.Lent.{Memory, memory, patch, window, msg_of, bytes_of, msg_at, meaning, stored, board_of, raised, plain_msg, line, kind_byte}
use Rattle.rules.specs.Steps.{has, post}
use Rattle.rules.specs.declared.Message.{Message}
use Rattle.rules.specs.declared.Kind.{Kind}
use Rattle.rules.specs.declared.Kind.TheVariants.{OneA, OneB, OneC, TwoAv, TwoB}
use Rattle.rules.proofs.Sound.{and_l, and_r, same_msg_equal, same_refl}
use Rattle.rules.proofs.Codec.{Small, msg_back, msg_long, any_last}
use Rattle.rules.proofs.Scan.{or_swap, holds, both_ways, eqs_means, eqs_same}
use Rattle.rules.proofs.Forms.{long_bytes}
use Rattle.board.specs.Asked.{Plain, Own, standing}

-- the bytes of a message, and the message that they are
pub bytes_back : (x : Msg) → msg_of (bytes_of (stored x)) ≡ stored x
bytes_back x = rw (take_all 32 (stored x).pairs (omega (arith, msg_long x)))

module _ (s : List ℕ) (x : Msg) (back : meaning (stored x) ≡ x) where
  -- one plain message
  pub same_at : (k : ℕ) → T (plain_msg s k) → eqs (window 40 k s) (bytes_of (stored x)) ≡ same_msg x (meaning (msg_at s k))
  unfolding plain_msg msg_at
  same_at k t = both_ways (eqs (window 40 k s) (bytes_of (stored x))) (same_msg x (meaning (msg_at s k))) to from
    where
      to : eqs (window 40 k s) (bytes_of (stored x)) ≡ true → same_msg x (meaning (msg_at s k)) ≡ true
      to e =
          let w : meaning (msg_at s k) ≡ x = ap (λ (z : List ℕ). meaning (msg_of z)) (eqs_means (window 40 k s) (bytes_of (stored x)) (rw e tt)) ∙ ap meaning (bytes_back x) ∙ back in
          ap (same_msg x) w ∙ holds (same_msg x x) (same_refl x)

      from : same_msg x (meaning (msg_at s k)) ≡ true → eqs (window 40 k s) (bytes_of (stored x)) ≡ true
      from e =
          let y = same_msg_equal x (meaning (msg_at s k)) (rw e tt) in
          eqs_same (window 40 k s) (bytes_of (stored x)) (eqs_means (window 40 k s) (bytes_of (stored (meaning (msg_at s k)))) t ∙ ap (λ (w : Msg). bytes_of (stored w)) (sym y))

  has_bytes : (n : ℕ) → T (all_below (plain_msg s) n) → standing s n (bytes_of (stored x)) ≡ has x (board_of s n)
  unfolding standing
  has_bytes zero t = refl
  has_bytes (suc n) t =
      (λ i. same_at n (and_l (plain_msg s n) (all_below (plain_msg s) n) t) i || has_bytes n (and_r (plain_msg s n) (all_below (plain_msg s) n) t) i)
      ∙ or_swap (same_msg x (meaning (msg_at s n))) (has x (board_of s n))
      ∙ sym (any_last (same_msg x) (board_of s n) (meaning (msg_at s n)))

-- ---- for the search: the bytes are written into forty zeros, z

whole_patch : (z y : List ℕ) → length z ≡ 40 → length y ≡ 40 → patch z 0 y ≡ y
whole_patch z y p q = ap (λ (t : List ℕ). y ++ t) (drop_of_length-le z {i = length y} (omega arith)) ∙ append-nil y

pub asked : (s z b : List ℕ) (n : ℕ) (m : Message) → Plain s n → Own m → length z ≡ 40 → b ≡ patch z 0 (bytes_of m) → standing s n b ≡ has (meaning m) (board_of s n)
asked s z b n m a o l e =
    ap (standing s n) (e ∙ ap (λ (t : Message). patch z 0 (bytes_of t)) (sym o) ∙ whole_patch z (bytes_of (stored (meaning m))) l (long_bytes (meaning m)))
    ∙ has_bytes s (meaning m) (ap meaning o) n a.plain

-- ---- for the writer

pub post_old : (m : Memory) (x : Msg) → has x (board_of m.board m.house.count) ≡ true → m ≡ post m x
unfolding post
post_old m x e = rw e

pub post_new : (m : Memory) (x : Msg) → has x (board_of m.board m.house.count) ≡ false
    → memory (raised m.house (suc m.house.count)) (patch m.board (40 * m.house.count) (bytes_of (stored x))) m.cells m.heard ≡ post m x
unfolding post
post_new m x e = rw e

-- ---- for who builds a struct: it is its meaning's own

pub own-stored : (x : Msg) (m : Message) → Small x → m ≡ stored x → Own m
own-stored x m f e = ap (λ (t : Message). stored (meaning t)) e ∙ ap stored (msg_back x f) ∙ sym e

pub means_stored : (x : Msg) (m : Message) → Small x → m ≡ stored x → meaning m ≡ x
means_stored x m f e = ap meaning e ∙ msg_back x f

-- a 2av or a 2b is its meaning's own
pub own_vote : (k : Kind) (r b n v : ℕ) (m : Message) → 4 ≤ kind_byte k → m ≡ line (kind_byte k) r b n v 0 0 [] → Own m
unfolding stored
own_vote OneA r b n v m h e = absurd (omega (arith, h))
own_vote OneB r b n v m h e = absurd (omega (arith, h))
own_vote OneC r b n v m h e = absurd (omega (arith, h))
own_vote TwoAv r b n v m h e = own-stored (m2av r b n v) m tt e
own_vote TwoB r b n v m h e = own-stored (m2b r b n v) m tt e
