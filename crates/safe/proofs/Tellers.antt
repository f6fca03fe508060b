-- What is gathered of the heard messages: one message more, and known safe read from the sets.
use mathlib.Core.Path.{◌≡◌, refl, ap, sym, ◌∙◌}
use mathlib.Core.Bool.{Bool, true, false, ◌&&◌, ◌||◌, and-true, and-false, true≢false}
use mathlib.Core.List.{List, [], ◌∷◌, ◌++◌}
use Prim.Native.Nat.{ℕ, zero, suc, min, ◌+◌, ◌-◌, ◌*◌, ◌≤◌, ◌<◌}
use native.Mathlib.Nat.{add-zero, add-suc}
use native.Mathlib.Numerals.{add-one}
use native.Mathlib.Omega.{arith}
use borrow.Author.Tests.{eq-eqb, eqb-true, le-ltb, lt-ltb, leb-true, leb-false}
use lib.Dec.{eqb, leb, eqb-suc-zero}
use lib.ListN.{length, get_or, take, get_or-eq_default}
use Rattle.rules.specs.Tests.{pick, any, any_below, all_in, bit}
use Rattle.rules.specs.Words.{height_of, Pair, Msg, m1a, m1b, m1c, m2av, m2b, kind_of, Room}
use Rattle.rules.specs.Lent.{memory, read, room_of, pairs_of, meaning, msg_at, board_of, heard_at, heard_of}
use Rattle.rules.specs.Steps.{shown, reaches, tells, heard_from, covers, known}
use Rattle.rules.specs.declared.House.{House}
use Rattle.rules.specs.declared.Message.{Message}
use Rattle.rules.proofs.Codec.{or_no, any_last, length_board}
use Rattle.rules.proofs.Scan.{turn, below_same, pairs_below}
use Rattle.sets.specs.Sets.{joined, Gathered}
use Rattle.sets.proofs.Full.{joined-bit, full_gathered}
use Rattle.board.proofs.Means.{means_1b}
use Rattle.safe.specs.Safe.{asked, ask_at, says, with_teller, promise, Tells, safe_at, Ready}
use Rattle.safe.specs.declared.Ask.{Ask}
use Rattle.safe.specs.declared.Ask.TheVariants.{Empty}
use Rattle.safe.specs.declared.Told.{Told}

-- ---- the pairs that an array can hold: past sixteen there are only zeros, which reach nowhere

below-cut : (p : ℕ → Bool) (k : ℕ) → ((i : ℕ) → k ≤ i → p i ≡ false) → (d : ℕ) → any_below p (k + d) ≡ any_below p k
below-cut p k f zero = rw add-zero
below-cut p k f (suc d) = rw (add-suc, f (k + d) (omega arith)) (below-cut p k f d)

pub shown_cut : (s : List ℕ) (n c v : ℕ) → length s ≡ 32 → shown c v 0 0 (pairs_of n s) ≡ shown c v 0 0 (pairs_of (min n 16) s)
shown_cut s n c v l = go (leb n 16) refl
  where
    far : (i : ℕ) → 16 ≤ i → eqb (get_or s (2 * i) 0) v && reaches c (get_or s (2 * i + 1) 0) ≡ false
    far i w = rw (get_or-eq_default s 0 {n = 2 * i + 1} (omega arith), le-ltb c 0 (omega arith)) (and-false (eqb (get_or s (2 * i) 0) v))

    go : (b : Bool) → leb n 16 ≡ b → shown c v 0 0 (pairs_of n s) ≡ shown c v 0 0 (pairs_of (min n 16) s)
    go true h = let k = leb-true n 16 h in let e : min n 16 ≡ n = omega arith in rw e
    go false h =
        let k = leb-false n 16 h in
        let e : min n 16 ≡ 16 = omega arith in
        let d : 16 + (n - 16) ≡ n = omega arith in
        rw e (pairs_below (λ q. eqb q.0 v && reaches c q.1) s n
        ∙ ap (any_below (λ k. eqb (get_or s (2 * k) 0) v && reaches c (get_or s (2 * k + 1) 0))) (sym d)
        ∙ below-cut (λ k. eqb (get_or s (2 * k) 0) v && reaches c (get_or s (2 * k + 1) 0)) 16 far (n - 16)
        ∙ sym (pairs_below (λ q. eqb q.0 v && reaches c q.1) s 16))

-- ---- what a 1b's bytes say

-- mbal none
pub none_height : (x : ℕ) → eqb (height_of x) 0 ≡ eqb x 255
none_height x = go (eqb x 255)
  where
    go : (b : Bool) → eqb (pick b 0 (suc x)) 0 ≡ b
    go true = refl
    go false = eqb-suc-zero x

-- ---- a 1b of this row, ballot and node

-- what a message tells of node a: it is a 1b of this row and ballot that passes, and its node is a
by_kind : (p : ℕ → ℕ → List Pair → Bool) (m : Message) (r b a : ℕ) → (k : Bool) → eqb (kind_of (meaning m)) 2 ≡ k
    → tells p r b a (meaning m) ≡ (k && (eqb m.row r && eqb m.bal b && eqb m.node a)) && p (height_of m.mbal) m.mval (pairs_of m.count m.pairs)
by_kind p m r b a true e = ap (tells p r b a) (means_1b m (eqb-true (kind_of (meaning m)) 2 e))
by_kind p m r b a false e = other (meaning m) e
  where
    other : (x : Msg) → eqb (kind_of x) 2 ≡ false → tells p r b a x ≡ false
    other (m1a r' b') e = refl
    other (m1b r' b' n x y ps) e = absurd (true≢false e)
    other (m1c r' b' v') e = refl
    other (m2av r' b' n v') e = refl
    other (m2b r' b' n v') e = refl

reads : (p : ℕ → ℕ → List Pair → Bool) (m : Message) (r b a : ℕ)
    → tells p r b a (meaning m) ≡ (eqb (kind_of (meaning m)) 2 && (eqb m.row r && eqb m.bal b && eqb m.node a)) && p (height_of m.mbal) m.mval (pairs_of m.count m.pairs)
reads p m r b a = by_kind p m r b a (eqb (kind_of (meaning m)) 2) refl

-- a 1b of this row and ballot
pub promise_reads : (m : Message) (r b : ℕ) → promise r b m ≡ eqb (kind_of (meaning m)) 2 && (eqb m.row r && eqb m.bal b)
promise_reads m r b =
    reads (λ x y ps. true) m r b m.node
    ∙ and-true (eqb (kind_of (meaning m)) 2 && (eqb m.row r && eqb m.bal b && eqb m.node m.node))
    ∙ ap (λ (z : Bool). eqb (kind_of (meaning m)) 2 && (eqb m.row r && eqb m.bal b && z)) (eq-eqb m.node m.node refl)
    ∙ ap (λ (z : Bool). eqb (kind_of (meaning m)) 2 && z) (and-true (eqb m.row r && eqb m.bal b))

move : (k q n s : Bool) → (k && (q && n)) && s ≡ ((k && q) && s) && n
move true true true s = sym (and-true s)
move true true false s = sym (and-false s)
move true false n s = refl
move false q n s = refl

teller : (k : Ask) (m : Message) (r b a : ℕ) → tells (asked k) r b a (meaning m) ≡ (promise r b m && says k m) && eqb a m.node
teller k m r b a =
    reads (asked k) m r b a
    ∙ move (eqb (kind_of (meaning m)) 2) (eqb m.row r && eqb m.bal b) (eqb m.node a) (says k m)
    ∙ (λ i. (sym (promise_reads m r b) i && says k m) && turn m.node a i)

-- one set, one message more
gather_step : (k : Ask) (m : Message) (r b old new : ℕ) (l : List Msg) → new ≡ pick (promise r b m && says k m) (joined old m.node) old
    → Gathered old (λ a. any (tells (asked k) r b a) l) → Gathered new (λ a. any (tells (asked k) r b a) (l ++ (meaning m ∷ [])))
gather_step k m r b old new l e g a h =
    ap (λ (z : ℕ). bit z a) e ∙ go (promise r b m && says k m) refl ∙ sym (any_last (tells (asked k) r b a) l (meaning m))
  where
    go : (t : Bool) → promise r b m && says k m ≡ t → bit (pick t (joined old m.node) old) a ≡ any (tells (asked k) r b a) l || tells (asked k) r b a (meaning m)
    go true d = joined-bit old m.node a h ∙ (λ i. g a h i || sym (teller k m r b a ∙ ap (λ (z : Bool). z && eqb a m.node) d) i)
    go false d = sym (or_no (bit old a)) ∙ (λ i. g a h i || sym (teller k m r b a ∙ ap (λ (z : Bool). z && eqb a m.node) d) i)

-- all sets
module _ (t : Told) (m : Message) (r b v : ℕ) (l : List Msg) (g : Tells t r b v l) where
  -- a message that is no such 1b
  pub told_same : promise r b m ≡ false → Tells t r b v (l ++ (meaning m ∷ []))
  told_same e = record {
    none = gather_step Empty m r b t.none t.none l (rw e) g.none;
    low = λ c h. gather_step (ask_at false c v) m r b (get_or t.low c 0) (get_or t.low c 0) l (rw e) (g.low c h);
    shown = λ c h. gather_step (ask_at true c v) m r b (get_or t.shown c 0) (get_or t.shown c 0) l (rw e) (g.shown c h);
  }

  -- one that is
  pub told_new : (t' : Told) → promise r b m ≡ true → t'.none ≡ with_teller t.none m Empty
      → ((c : ℕ) → c < 16 → get_or t'.low c 0 ≡ with_teller (get_or t.low c 0) m (ask_at false c v))
      → ((c : ℕ) → c < 16 → get_or t'.shown c 0 ≡ with_teller (get_or t.shown c 0) m (ask_at true c v))
      → Tells t' r b v (l ++ (meaning m ∷ []))
  told_new t' e p q s = record {
    none = gather_step Empty m r b t.none t'.none l (rw e p) g.none;
    low = λ c h. gather_step (ask_at false c v) m r b (get_or t.low c 0) (get_or t'.low c 0) l (rw e (q c h)) (g.low c h);
    shown = λ c h. gather_step (ask_at true c v) m r b (get_or t.shown c 0) (get_or t'.shown c 0) l (rw e (s c h)) (g.shown c h);
  }

-- ---- the heard messages

heard_last : (h : ℕ → Bool) (j : ℕ) (l : List Msg) (x : Msg) → heard_from h j (l ++ (x ∷ [])) ≡ heard_from h j l ++ pick (h (j + length l)) (x ∷ []) []
heard_last h j [] x = rw add-zero (go (h j))
  where
    go : (b : Bool) → pick b (x ∷ []) [] ≡ pick b (x ∷ []) []
    go b = refl
heard_last h j (y ∷ l) x =
    let e : suc j + length l ≡ j + suc (length l) = omega arith in
    go (h j) (heard_last h (suc j) l x ∙ ap (λ (k : ℕ). heard_from h (suc j) l ++ pick (h k) (x ∷ []) []) e)
  where
    go : (b : Bool) → heard_from h (suc j) (l ++ (x ∷ [])) ≡ heard_from h (suc j) l ++ pick (h (j + suc (length l))) (x ∷ []) []
        → pick b (y ∷ heard_from h (suc j) (l ++ (x ∷ []))) (heard_from h (suc j) (l ++ (x ∷ []))) ≡ pick b (y ∷ heard_from h (suc j) l) (heard_from h (suc j) l) ++ pick (h (j + suc (length l))) (x ∷ []) []
    go true e = ap (λ (t : List Msg). y ∷ t) e
    go false e = e

-- one message more of the board
pub heard_more : (h : ℕ → Bool) (s : List ℕ) (i : ℕ) → heard_from h 0 (board_of s (i + 1)) ≡ heard_from h 0 (board_of s i) ++ pick (h i) (meaning (msg_at s i) ∷ []) []
heard_more h s i =
    let e : 0 + length (board_of s i) ≡ i = omega (arith, length_board s i) in
    ap (λ (n : ℕ). heard_from h 0 (board_of s n)) (add-one i)
    ∙ heard_last h 0 (board_of s i) (meaning (msg_at s i))
    ∙ ap (λ (k : ℕ). heard_from h 0 (board_of s i) ++ pick (h k) (meaning (msg_at s i) ∷ []) []) e

heard_same : (h q : ℕ → Bool) (j : ℕ) (l : List Msg) → ((k : ℕ) → k < j + length l → h k ≡ q k) → heard_from h j l ≡ heard_from q j l
heard_same h q j [] f = refl
heard_same h q j (x ∷ l) f =
    ap (λ (b : Bool). pick b (x ∷ heard_from h (suc j) l) (heard_from h (suc j) l)) (f j (omega arith))
    ∙ ap (λ (t : List Msg). pick (q j) (x ∷ t) t) (heard_same h q (suc j) l (λ k w. f k (omega arith)))

-- ---- known safe, of the sets

module _ (h : House) (s k : List ℕ) (r n b v : ℕ) (t : Told) (y : Ready h s k n b) (g : Tells t r b v (heard_from (heard_at k n) 0 (board_of s h.count))) where
  abbrev ρ : Room
  ρ = room_of h

  abbrev l : List Msg
  l = heard_from (heard_at k n) 0 (board_of s h.count)

  abbrev known_of : List Msg → Bool
  known_of z = covers ρ ρ.quorums (tells (asked Empty) r b) z
      || any_below (λ c. covers ρ ρ.quorums (tells (asked (ask_at false c v)) r b) z && covers ρ ρ.weaks (tells (asked (ask_at true c v)) r b) z) b

  same_heard : heard_from (heard_of ρ k n) 0 (board_of s h.count) ≡ l
  same_heard = heard_same (heard_of ρ k n) (heard_at k n) 0 (board_of s h.count)
      (λ i w. rw (lt-ltb n h.nodes y.node, lt-ltb i 1024 (omega (arith, length_board s h.count, y.count))))

  at_c : (c : ℕ) → c < b
      → covers ρ ρ.quorums (tells (asked (ask_at false c v)) r b) l && covers ρ ρ.weaks (tells (asked (ask_at true c v)) r b) l ≡ safe_at h t c
  at_c c w =
      let d : c < 16 = omega (arith, y.ballot) in
      λ i. sym (full_gathered ρ ρ.quorums (get_or t.low c 0) (λ a. any (tells (asked (ask_at false c v)) r b a) l) y.nodes (g.low c d)) i
      && sym (full_gathered ρ ρ.weaks (get_or t.shown c 0) (λ a. any (tells (asked (ask_at true c v)) r b a) l) y.nodes (g.shown c d)) i

  -- by the steps of the search: x says whether part i holds, z whether part ii does
  module _ (cells : List ℕ) {j : ℕ} {x : Bool} (d : j ≡ h.listed) (e : x ≡ any (λ q. all_in h.nodes q (bit t.none)) (take j h.quorums)) where
    parts : known ρ (read (memory h s cells k)) r n b v ≡ x || any_below (safe_at h t) b
    parts =
        ap known_of same_heard
        ∙ (λ i. sym (full_gathered ρ ρ.quorums t.none (λ a. any (tells (asked Empty) r b a) l) y.nodes g.none) i
        || below_same (λ c. covers ρ ρ.quorums (tells (asked (ask_at false c v)) r b) l && covers ρ ρ.weaks (tells (asked (ask_at true c v)) r b) l) (safe_at h t) b at_c i)
        ∙ ap (λ (z : Bool). z || any_below (safe_at h t) b) (sym (rw d at e))

    pub known_i : x ≡ true → x ≡ known ρ (read (memory h s cells k)) r n b v
    known_i f = f ∙ sym (parts ∙ ap (λ (z : Bool). z || any_below (safe_at h t) b) f)

    pub known_ii : {z : Bool} → x ≡ false → z ≡ any_below (safe_at h t) b → z ≡ known ρ (read (memory h s cells k)) r n b v
    known_ii f q = q ∙ sym (parts ∙ ap (λ (z : Bool). z || any_below (safe_at h t) b) f)
