-- The votes of a row, one message more: only a 2b of the row adds one, at its own ballot and tube.
use mathlib.Core.Path.{◌≡◌, refl, ap, sym, subst, ◌∙◌}
use mathlib.Core.Bool.{Bool, true, false, ◌&&◌, ◌||◌, and-false}
use mathlib.Core.List.Memᴰ
use mathlib.Core.List.{List, [], ◌∷◌, ◌++◌, Memᴰ}
use Prim.Native.Nat.{ℕ, zero, suc, ◌+◌, ◌*◌, ◌≤◌, ◌<◌}
use native.Mathlib.Nat.{zero-div, add-zero}
use native.Mathlib.Numerals.{add-one}
use native.Mathlib.Decide.{ℕ_discrete}
use native.Mathlib.Omega.{arith}
use borrow.Author.Tests.{eq-eqb, ne_eqb}
use lib.Dec.{T, eqb, leb→le}
use lib.ListN.{length, get_or, drop, set, replicate, length-set, get_or-replicate}
use lib.Seq.{get_or-take, get_or-drop, get_or-set_same, get_or-set_other}
use Rattle.rules.specs.Tests.{pick, any, bit}
use Rattle.rules.specs.Words.{Msg, m1a, m1b, m1c, m2av, m2b, kind_of, Room}
use Rattle.rules.specs.Lent.{window, bytes_of, msg_at, meaning, stored, board_of, room_of, limits, plain_msg}
use Rattle.rules.specs.Steps.{is2b}
use Rattle.rules.specs.declared.House.{House}
use Rattle.rules.specs.declared.Message.{Message}
use Rattle.rules.proofs.Sound.{and_l, and_r, all_sound}
use Rattle.rules.proofs.Codec.{any_last, or_no}
use Rattle.rules.proofs.Scan.{eqs_means}
use Rattle.kept.proofs.Lists.{all-below}
use Rattle.sets.specs.Sets.{joined}
use Rattle.sets.proofs.Full.{joined-bit}
use Rattle.tell.specs.Votes.{Countable, slot, Counted, with_vote, voted, Within}

-- ---- a message's bytes

byte_at : (s : List ℕ) (k i : ℕ) → i < 40 → get_or (window 40 k s) i 0 ≡ get_or s (40 * k + i) 0
byte_at s k i h = get_or-take 40 (drop (40 * k) s) i 0 h ∙ get_or-drop (40 * k) s i 0

-- the bytes by which the message numbered k is a vote
pub record Bytes (s : List ℕ) (k : ℕ) : Type 0 where
  pub kind : (msg_at s k).kind ≡ get_or s (40 * k) 0
  pub row : (msg_at s k).row ≡ get_or s (40 * k + 1) 0
  pub ballot : (msg_at s k).bal ≡ get_or s (40 * k + 2) 0
  pub node : (msg_at s k).node ≡ get_or s (40 * k + 3) 0
  pub tube : (msg_at s k).tube ≡ get_or s (40 * k + 4) 0

pub bytes : (s : List ℕ) (k : ℕ) → Bytes s k
unfolding msg_at
bytes s k = record {
  kind = byte_at s k 0 (omega arith) ∙ rw add-zero;
  row = byte_at s k 1 (omega arith);
  ballot = byte_at s k 2 (omega arith);
  node = byte_at s k 3 (omega arith);
  tube = byte_at s k 4 (omega arith);
}

first_byte : (x : Msg) → (stored x).kind ≡ kind_of x
unfolding stored
first_byte (m1a r b) = refl
first_byte (m1b r b n x y ps) = refl
first_byte (m1c r b v) = refl
first_byte (m2av r b n v) = refl
first_byte (m2b r b n v) = refl

-- a plain message's first byte is its kind
pub plain_kind : (s : List ℕ) (k : ℕ) → T (plain_msg s k) → (msg_at s k).kind ≡ kind_of (meaning (msg_at s k))
unfolding plain_msg msg_at
plain_kind s k t = ap (λ (w : List ℕ). get_or w 0 0) (eqs_means (window 40 k s) (bytes_of (stored (meaning (msg_at s k)))) t) ∙ first_byte (meaning (msg_at s k))

means_2b : (m : Message) → m.kind ≡ 5 → meaning m ≡ m2b m.row m.bal m.node m.tube
unfolding meaning
means_2b m e = rw e

-- ---- the vote that a message is

is_2b : (r b v a r' b' n v' : ℕ) → is2b r b v a (m2b r' b' n v') ≡ (eqb r' r && (eqb b' b && eqb v' v)) && eqb n a
is_2b r b v a r' b' n v' = go (eqb r' r) (eqb b' b) (eqb n a) (eqb v' v)
  where
    go : (p q s t : Bool) → p && q && s && t && true && true && true ≡ (p && (q && t)) && s
    go true true true true = refl
    go true true true false = refl
    go true true false true = refl
    go true true false false = refl
    go true false s t = refl
    go false q s t = refl

no_2b : (r b v a : ℕ) (x : Msg) → (kind_of x ≡ 5 → ⊥) → is2b r b v a x ≡ false
no_2b r b v a (m1a r' b') h = refl
no_2b r b v a (m1b r' b' n x y ps) h = refl
no_2b r b v a (m1c r' b' v') h = refl
no_2b r b v a (m2av r' b' n v') h = refl
no_2b r b v a (m2b r' b' n v') h = absurd (h refl)

-- ---- which votes a message adds

pub other_kind : (votes : List ℕ) (row : ℕ) (m : Message) → (m.kind ≡ 5 → ⊥) → voted votes row m ≡ votes
unfolding voted
other_kind votes row m h = rw (ne_eqb m.kind 5 h)

pub other_row : (votes : List ℕ) (row : ℕ) (m : Message) → (m.row ≡ row → ⊥) → voted votes row m ≡ votes
unfolding voted
other_row votes row m h = rw (ne_eqb m.row row h, and-false (eqb m.kind 5))

pub this_row : (votes : List ℕ) (row : ℕ) (m : Message) → m.kind ≡ 5 → m.row ≡ row → voted votes row m ≡ with_vote votes m.bal m.tube m.node
unfolding voted
this_row votes row m e f = rw (eq-eqb m.kind 5 e, eq-eqb m.row row f)

-- ---- the votes counted

-- a set with one node more has that node and those before
one_more : (set n a : ℕ) → a < 8 → bit (joined set n) a ≡ bit set a || eqb n a
one_more set n a h = joined-bit set n a h ∙ ap (λ (z : Bool). bit set a || z) (go (ℕ_discrete a n))
  where
    go : Dec (a ≡ n) → eqb a n ≡ eqb n a
    go (yes e) = rw e
    go (no e) = ne_eqb a n e ∙ sym (ne_eqb n a (λ d. e (sym d)))

module _ (votes : List ℕ) (row : ℕ) (l : List Msg) (m : Message) (size : length votes ≡ 1024) (kind : m.kind ≡ kind_of (meaning m))
    (place : m.kind ≡ 5 → (m.bal ≤ 15) × ((1 ≤ m.tube) × (m.tube ≤ 64))) where
  pub counted-more : Counted l row votes → Counted (l ++ (meaning m ∷ [])) row (voted votes row m)
  unfolding Counted with_vote
  counted-more f b v a hb lv hv ha = go (ℕ_discrete m.kind 5) (ℕ_discrete m.row row) ∙ sym (any_last (is2b row b v a) l (meaning m))
    where
      had : Bool
      had = any (is2b row b v a) l

      -- no vote for this ballot and tube: nothing changed there, and the message is none
      same : get_or (voted votes row m) (slot b v) 0 ≡ get_or votes (slot b v) 0 → is2b row b v a (meaning m) ≡ false
          → bit (get_or (voted votes row m) (slot b v) 0) a ≡ had || is2b row b v a (meaning m)
      same e d = ap (λ (w : ℕ). bit w a) e ∙ f b v a hb lv hv ha ∙ sym (ap (λ (z : Bool). had || z) d ∙ or_no had)

      is : m.kind ≡ 5 → is2b row b v a (meaning m) ≡ (eqb m.row row && (eqb m.bal b && eqb m.tube v)) && eqb m.node a
      is e = ap (is2b row b v a) (means_2b m e) ∙ is_2b row b v a m.row m.bal m.node m.tube

      apart : m.kind ≡ 5 → m.row ≡ row → (slot b v ≡ slot m.bal m.tube → ⊥) → get_or (voted votes row m) (slot b v) 0 ≡ get_or votes (slot b v) 0
      apart e d n = ap (λ (w : List ℕ). get_or w (slot b v) 0) (this_row votes row m e d) ∙ get_or-set_other votes (slot m.bal m.tube) (slot b v) _ 0 n

      here : m.kind ≡ 5 → m.row ≡ row → m.bal ≡ b → m.tube ≡ v → bit (get_or (voted votes row m) (slot b v) 0) a ≡ had || is2b row b v a (meaning m)
      here e d x y =
          let i : slot b v < length votes = omega arith in
          let s : slot m.bal m.tube ≡ slot b v = rw (x, y) in
          ap (λ (w : List ℕ). bit (get_or w (slot b v) 0) a) (this_row votes row m e d)
          ∙ ap (λ (w : ℕ). bit (get_or (set votes w (joined (get_or votes w 0) m.node)) (slot b v) 0) a) s
          ∙ ap (λ (w : ℕ). bit w a) (get_or-set_same votes (slot b v) (joined (get_or votes (slot b v) 0) m.node) 0 i)
          ∙ one_more (get_or votes (slot b v) 0) m.node a ha
          ∙ ap (λ (z : Bool). z || eqb m.node a) (f b v a hb lv hv ha)
          ∙ ap (λ (z : Bool). had || z) (sym (is e ∙ rw (eq-eqb m.row row d, eq-eqb m.bal b x, eq-eqb m.tube v y)))

      at : m.kind ≡ 5 → m.row ≡ row → Dec (m.bal ≡ b) → Dec (m.tube ≡ v) → bit (get_or (voted votes row m) (slot b v) 0) a ≡ had || is2b row b v a (meaning m)
      at e d (yes x) (yes y) = here e d x y
      at e d (no x) t = let p = place e in
          same (apart e d (λ z. x (omega arith))) (is e ∙ rw (ne_eqb m.bal b x, and-false (eqb m.row row)))
      at e d (yes x) (no y) = let p = place e in
          same (apart e d (λ z. y (omega arith))) (is e ∙ rw (ne_eqb m.tube v y, and-false (eqb m.bal b), and-false (eqb m.row row)))

      go : Dec (m.kind ≡ 5) → Dec (m.row ≡ row) → bit (get_or (voted votes row m) (slot b v) 0) a ≡ had || is2b row b v a (meaning m)
      go (no d) t = same (ap (λ (w : List ℕ). get_or w (slot b v) 0) (other_kind votes row m d)) (no_2b row b v a (meaning m) (λ e. d (kind ∙ e)))
      go (yes e) (no d) = same (ap (λ (w : List ℕ). get_or w (slot b v) 0) (other_row votes row m d)) (is e ∙ rw (ne_eqb m.row row d))
      go (yes e) (yes d) = at e d (ℕ_discrete m.bal b) (ℕ_discrete m.tube v)

-- ---- on the board

on_board : (s : List ℕ) (n k : ℕ) → k < n → Memᴰ (meaning (msg_at s k)) (board_of s n)
on_board s zero k h = absurd (omega arith)
on_board s (suc n) k h = go (on_board s n k) (ℕ_discrete k n)
  where
    go : (k < n → Memᴰ (meaning (msg_at s k)) (board_of s n)) → Dec (k ≡ n) → Memᴰ (meaning (msg_at s k)) (board_of s (suc n))
    go r (yes e) = Memᴰ.append_right (board_of s n) (Memᴰ.head (rw e))
    go r (no e) = Memᴰ.append_left (meaning (msg_at s n) ∷ []) (r (omega arith))

-- a 2b within limits has a place among the votes
in_place : (ρ : Room) (m : Message) → T (limits ρ (meaning m)) → m.kind ≡ 5 → (m.bal ≤ 15) × ((1 ≤ m.tube) × (m.tube ≤ 64))
unfolding limits
in_place ρ m t e =
    let u = subst (λ (x : Msg). T (limits ρ x)) (means_2b m e) t in
    (search (leb→le, and_l, and_r, u) depth 9, (search (leb→le, and_l, and_r, u) depth 9, search (leb→le, and_l, and_r, u) depth 9))

pub within : (h : House) (s : List ℕ) (k : ℕ) → Countable h s → k < h.count → Within s k
within h s k c l = record {
  number = omega (arith, c.board.count);
  long = omega (arith, c.board.long);
  slot = in_place (room_of h) (msg_at s k) (all_sound (limits (room_of h)) (board_of s h.count) c.limits (meaning (msg_at s k)) (on_board s h.count k l));
}

pub none_counted : (row : ℕ) → Counted [] row (replicate 1024 0)
unfolding Counted
none_counted row b v a hb lv hv ha = rw (get_or-replicate {A = ℕ} 1024 (slot b v) 0 0 (omega arith), zero-div)

pub length-voted : (votes : List ℕ) (row : ℕ) (m : Message) → length (voted votes row m) ≡ length votes
unfolding voted with_vote
length-voted votes row m = go (eqb m.kind 5 && eqb m.row row)
  where
    go : (b : Bool) → length (pick b (with_vote votes m.bal m.tube m.node) votes) ≡ length votes
    go true = length-set votes (slot m.bal m.tube) (joined (get_or votes (slot m.bal m.tube) 0) m.node)
    go false = refl

pub counted_next : (h : House) (s votes : List ℕ) (row k : ℕ) → Countable h s → k < h.count → length votes ≡ 1024
    → Counted (board_of s k) row votes → Counted (board_of s (k + 1)) row (voted votes row (msg_at s k))
counted_next h s votes row k c l size f = rw add-one
    (counted-more votes row (board_of s k) (msg_at s k) size (plain_kind s k (all-below (plain_msg s) h.count c.board.plain k l)) (within h s k c l).slot f)
