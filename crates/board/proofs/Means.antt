-- What a message's bytes mean: its kind, the message at a number, a vote, and one message more.
use denote.Enum.Bare.{sameb}
use Rattle.rules.specs.contracts.Kind.{the_type}
use Rattle.rules.specs.declared.Kind.{Kind}
use Rattle.rules.specs.declared.Kind.TheVariants.{OneA, OneB, OneC, TwoAv, TwoB}
use mathlib.Core.Path.{◌≡◌, refl, ap, sym, ◌∙◌}
use mathlib.Core.Bool.{Bool, true, false, ◌&&◌, ◌||◌, and-true}
use mathlib.Core.List.{List, [], ◌∷◌, ◌++◌}
use Prim.Native.Nat.{ℕ, zero, suc, ◌+◌, ◌≤◌, ◌<◌}
use native.Mathlib.Numerals.{add-one}
use native.Mathlib.Decide.{ℕ_discrete}
use native.Mathlib.Omega.{arith}
use borrow.Author.Tests.{eq-eqb, ne_eqb}
use lib.Dec.{eqb}
use lib.ListN.{length}
use Rattle.rules.specs.Tests.{pick, any}
use Rattle.rules.specs.Words.{height_of, Msg, m1a, m1b, m1c, m2av, m2b, kind_of}
use Rattle.rules.specs.Lent.{pairs_of, meaning, msg_at, board_of, is1b, is_1b_at, kind_byte}
use Rattle.rules.specs.declared.Message.{Message}
use Rattle.rules.proofs.Codec.{length_board, any_last}
use Rattle.rules.proofs.Scan.{turn}
use Rattle.board.specs.Asked.{is_vote}

abbrev kind_by : Bool → Bool → Bool → Bool → ℕ
kind_by a b c d = pick a 1 (pick b 2 (pick c 3 (pick d 4 5)))

-- a message by the tests of its first byte
abbrev meant : Message → Bool → Bool → Bool → Bool → Msg
meant m a b c d = pick a (m1a m.row m.bal)
    (pick b (m1b m.row m.bal m.node (height_of m.mbal) m.mval (pairs_of m.count m.pairs))
    (pick c (m1c m.row m.bal m.tube)
    (pick d (m2av m.row m.bal m.node m.tube) (m2b m.row m.bal m.node m.tube))))

by_tests : (m : Message) (a b c d : Bool) → kind_of (meant m a b c d) ≡ kind_by a b c d
by_tests m true b c d = refl
by_tests m false true c d = refl
by_tests m false false true d = refl
by_tests m false false false true = refl
by_tests m false false false false = refl

kind_as_tests : (m : Message) → kind_of (meaning m) ≡ kind_by (eqb m.kind 1) (eqb m.kind 2) (eqb m.kind 3) (eqb m.kind 4)
unfolding meaning
kind_as_tests m = by_tests m (eqb m.kind 1) (eqb m.kind 2) (eqb m.kind 3) (eqb m.kind 4)

-- a first byte from 1 to 4 is the kind; any other means a 2b
pub kind_in : (m : Message) → 1 ≤ m.kind → m.kind ≤ 4 → kind_of (meaning m) ≡ m.kind
kind_in m h k = kind_as_tests m ∙ go m.kind h k
  where
    go : (x : ℕ) → 1 ≤ x → x ≤ 4 → kind_by (eqb x 1) (eqb x 2) (eqb x 3) (eqb x 4) ≡ x
    go zero h k = absurd (omega arith)
    go (suc zero) h k = refl
    go (suc (suc zero)) h k = refl
    go (suc (suc (suc zero))) h k = refl
    go (suc (suc (suc (suc zero)))) h k = refl
    go (suc (suc (suc (suc (suc x))))) h k = absurd (omega arith)

pub kind_out : (m : Message) → ¬ (m.kind ≡ 1) → ¬ (m.kind ≡ 2) → ¬ (m.kind ≡ 3) → ¬ (m.kind ≡ 4) → kind_of (meaning m) ≡ 5
kind_out m a b c d = kind_as_tests m ∙ rw (ne_eqb m.kind 1 a, ne_eqb m.kind 2 b, ne_eqb m.kind 3 c, ne_eqb m.kind 4 d)

-- a message of kind 2 is the 1b of its bytes
pub means_1b : (m : Message) → kind_of (meaning m) ≡ 2 → meaning m ≡ m1b m.row m.bal m.node (height_of m.mbal) m.mval (pairs_of m.count m.pairs)
unfolding meaning
means_1b m e = go (eqb m.kind 1) (eqb m.kind 2) (eqb m.kind 3) (eqb m.kind 4) (sym (kind_as_tests m) ∙ e)
  where
    go : (a b c d : Bool) → kind_by a b c d ≡ 2 → meant m a b c d ≡ m1b m.row m.bal m.node (height_of m.mbal) m.mval (pairs_of m.count m.pairs)
    go true b c d e = absurd (omega arith)
    go false true c d e = refl
    go false false true d e = absurd (omega arith)
    go false false false true e = absurd (omega arith)
    go false false false false e = absurd (omega arith)

-- ---- the message at a number

pub is1b_kind : (x : Msg) → is1b x ≡ eqb (kind_of x) 2
is1b_kind (m1a r b) = refl
is1b_kind (m1b r b n x y ps) = refl
is1b_kind (m1c r b v) = refl
is1b_kind (m2av r b n v) = refl
is1b_kind (m2b r b n v) = refl

before_last : (l : List Msg) (x : Msg) (k : ℕ) → k < length l → is_1b_at (l ++ (x ∷ [])) k ≡ is_1b_at l k
before_last [] x k h = absurd (omega arith)
before_last (y ∷ l) x zero h = refl
before_last (y ∷ l) x (suc k) h = before_last l x k (omega arith)

at_last : (l : List Msg) (x : Msg) (k : ℕ) → k ≡ length l → is_1b_at (l ++ (x ∷ [])) k ≡ is1b x
at_last [] x k h = rw h
at_last (y ∷ l) x zero h = absurd (omega arith)
at_last (y ∷ l) x (suc k) h = at_last l x k (omega arith)

at_number : (s : List ℕ) (n k : ℕ) → k < n → is_1b_at (board_of s n) k ≡ is1b (meaning (msg_at s k))
at_number s zero k h = absurd (omega arith)
at_number s (suc n) k h = go (at_number s n k) (ℕ_discrete k n)
  where
    go : (k < n → is_1b_at (board_of s n) k ≡ is1b (meaning (msg_at s k))) → Dec (k ≡ n) → is_1b_at (board_of s (suc n)) k ≡ is1b (meaning (msg_at s k))
    go r (yes e) = at_last (board_of s n) (meaning (msg_at s n)) k (e ∙ sym (length_board s n)) ∙ ap (λ (j : ℕ). is1b (meaning (msg_at s j))) (sym e)
    go r (no e) = before_last (board_of s n) (meaning (msg_at s n)) k (omega (arith, length_board s n)) ∙ r (omega arith)

pub board_1b : (s : List ℕ) (n k : ℕ) → k < n → is_1b_at (board_of s n) k ≡ eqb (kind_of (meaning (msg_at s k))) 2
board_1b s n k h = at_number s n k h ∙ is1b_kind (meaning (msg_at s k))

-- ---- votes

ends : (b : Bool) → b && true && true && true ≡ b
ends true = refl
ends false = refl

move : (p n v : Bool) → p && n && v ≡ (p && true && v) && n
move true true v = sym (and-true v)
move true false true = refl
move true false false = refl
move false n v = refl

-- a vote, by the bytes that it reads
abbrev vote_by : Bool → Bool → Bool → Bool → Bool → Bool
vote_by k r b n v = k && r && b && n && v

vote_kind : (m : Message) (k r b v a : ℕ) → 4 ≤ k → (x y z w : Bool)
    → is_vote k r b v a (meant m x y z w) ≡ vote_by (eqb (kind_by x y z w) k) (eqb m.row r) (eqb m.bal b) (eqb m.node a) (eqb m.tube v)
vote_kind m k r b v a h true y z w = rw (ne_eqb 1 k (λ e. omega arith))
vote_kind m k r b v a h false true z w = rw (ne_eqb 2 k (λ e. omega arith))
vote_kind m k r b v a h false false true w = rw (ne_eqb 3 k (λ e. omega arith))
vote_kind m k r b v a h false false false true = ends (eqb 4 k && eqb m.row r && eqb m.bal b && eqb m.node a && eqb m.tube v)
vote_kind m k r b v a h false false false false = ends (eqb 5 k && eqb m.row r && eqb m.bal b && eqb m.node a && eqb m.tube v)

pub vote_reads : (m : Message) (k r b v a : ℕ) → 4 ≤ k
    → is_vote k r b v a (meaning m) ≡ vote_by (eqb (kind_of (meaning m)) k) (eqb m.row r) (eqb m.bal b) (eqb m.node a) (eqb m.tube v)
unfolding meaning
vote_reads m k r b v a h =
    vote_kind m k r b v a h (eqb m.kind 1) (eqb m.kind 2) (eqb m.kind 3) (eqb m.kind 4)
    ∙ ap (λ (x : ℕ). vote_by (eqb x k) (eqb m.row r) (eqb m.bal b) (eqb m.node a) (eqb m.tube v)) (sym (kind_as_tests m))

-- a vote of node a is a vote of its own node, and that is a
pub vote_node : (m : Message) (k r b v a : ℕ) → 4 ≤ k → is_vote k r b v a (meaning m) ≡ is_vote k r b v m.node (meaning m) && eqb a m.node
vote_node m k r b v a h =
    vote_reads m k r b v a h
    ∙ move (eqb (kind_of (meaning m)) k && eqb m.row r && eqb m.bal b) (eqb m.node a) (eqb m.tube v)
    ∙ (λ i. (eqb (kind_of (meaning m)) k && eqb m.row r && eqb m.bal b && sym (eq-eqb m.node m.node refl) i && eqb m.tube v) && turn m.node a i)
    ∙ ap (λ (x : Bool). x && eqb a m.node) (sym (vote_reads m k r b v m.node h))

-- a vote by its own node
pub vote_own : (m : Message) (k r b v : ℕ) → 4 ≤ k → is_vote k r b v m.node (meaning m) ≡ eqb (kind_of (meaning m)) k && eqb m.row r && eqb m.bal b && eqb m.tube v
vote_own m k r b v h = vote_reads m k r b v m.node h ∙ rw (eq-eqb m.node m.node refl) (drops (eqb (kind_of (meaning m)) k && eqb m.row r && eqb m.bal b) (eqb m.tube v))
  where
    drops : (p v : Bool) → p && true && v ≡ p && v
    drops true v = refl
    drops false v = refl

-- ---- scans

-- one message more
pub board_more : (p : Msg → Bool) (s : List ℕ) (i : ℕ) → any p (board_of s (i + 1)) ≡ any p (board_of s i) || p (meaning (msg_at s i))
board_more p s i = ap (λ (n : ℕ). any p (board_of s n)) (add-one i) ∙ any_last p (board_of s i) (meaning (msg_at s i))

-- a kind is the 1b's where its byte is 2
pub is_one_b : (k : Kind) → sameb the_type k OneB ≡ eqb (kind_byte k) 2
is_one_b OneA = refl
is_one_b OneB = refl
is_one_b OneC = refl
is_one_b TwoAv = refl
is_one_b TwoB = refl

pub not_one_b : (k : Kind) → ¬ (k ≡ OneB) → ¬ (kind_byte k ≡ 2)
not_one_b OneA n = λ e. omega (arith, e)
not_one_b OneB n = λ e. n refl
not_one_b OneC n = λ e. omega (arith, e)
not_one_b TwoAv n = λ e. omega (arith, e)
not_one_b TwoB n = λ e. omega (arith, e)
