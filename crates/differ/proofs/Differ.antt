-- On a plain board two messages are the same just where their bytes are.
use mathlib.Core.Path.{◌≡◌, ap, sym, ◌∙◌}
use mathlib.Core.Bool.{not}
use mathlib.Core.List.{List}
use Prim.Native.Nat.{ℕ, ◌<◌}
use native.Mathlib.Omega.{arith}
use lib.Dec.{T}
use Rattle.rules.specs.Tests.{all_below, distinct, eqs}
use Rattle.rules.specs.Words.{same_msg}
use Rattle.rules.specs.Lent.{window, msg_of, msg_at, meaning, stored, board_of, plain_msg}
use Rattle.rules.proofs.Scan.{holds, both_ways, eqs_means, eqs_same}
use Rattle.board.proofs.Bytes.{bytes_back, same_at}
use Rattle.differ.specs.Differ.{new_message}
use Rattle.rules.proofs.Each.{each_at, each_same, board_build, distinct-build}
use Rattle.rules.proofs.Forms.{plain_bytes}

eqs_swap : (s t : List ℕ) → eqs s t ≡ eqs t s
eqs_swap s t = both_ways (eqs s t) (eqs t s) (λ e. eqs_same t s (sym (eqs_means s t (rw e tt)))) (λ e. eqs_same s t (sym (eqs_means t s (rw e tt))))

plain_back : (s : List ℕ) (k : ℕ) → T (plain_msg s k) → meaning (stored (meaning (msg_at s k))) ≡ meaning (msg_at s k)
unfolding msg_at
plain_back s k t =
    ap meaning (sym (bytes_back (meaning (msg_at s k))))
    ∙ ap (λ (w : List ℕ). meaning (msg_of w)) (sym (plain_bytes s k t))

same_windows : (s : List ℕ) (j k : ℕ) → T (plain_msg s j) → T (plain_msg s k) → same_msg (meaning (msg_at s j)) (meaning (msg_at s k)) ≡ eqs (window 40 j s) (window 40 k s)
same_windows s j k t u =
    sym (same_at s (meaning (msg_at s j)) (plain_back s j t) k u)
    ∙ ap (eqs (window 40 k s)) (sym (plain_bytes s j t))
    ∙ eqs_swap (window 40 k s) (window 40 j s)

-- no message is the same as an earlier one
pub board_differs : (s : List ℕ) (n : ℕ) → T (all_below (plain_msg s) n) → distinct same_msg (board_of s n) ≡ all_below (new_message s) n
board_differs s n t =
    ap (distinct same_msg) (board_build s n)
    ∙ distinct-build same_msg (λ i. meaning (msg_at s i)) n
    ∙ each_same (λ i. all_below (λ j. not (same_msg (meaning (msg_at s j)) (meaning (msg_at s i)))) i) (new_message s) n
    (λ i l. each_same (λ j. not (same_msg (meaning (msg_at s j)) (meaning (msg_at s i)))) (λ j. not (eqs (window 40 j s) (window 40 i s))) i
    (λ j m. ap not (same_windows s j i (plain j (omega arith)) (plain i l))))
  where
    plain : (k : ℕ) → k < n → T (plain_msg s k)
    plain k l = rw (each_at (plain_msg s) n k (holds (all_below (plain_msg s) n) t) l) tt
