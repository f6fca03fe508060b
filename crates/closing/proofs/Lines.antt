-- Each scanned tube has one closing line of its own, and the totals tell the lines above them.
use mathlib.Core.Path.{◌≡◌, refl, sym, ap, ◌∙◌}
use mathlib.Core.Bool.{Bool, true, false, not}
use mathlib.Core.Logic.{◌⊎◌, inl, inr}
use mathlib.Core.List.Memᴰ
use mathlib.Core.List.{List, [], ◌∷◌, ◌++◌, map, Memᴰ}
use Prim.Native.Nat.{ℕ, suc, ◌+◌, ◌≤◌}
use native.Mathlib.Nat.{zero-add}
use native.Mathlib.Omega.{arith}
use borrow.Author.Tests.{ne_eqb}
use lib.Dec.{eqb, leb, leb→le}
use lib.ListN.{length}
use Rattle.rules.specs.Tests.{pick, one, up_to}
use Rattle.rules.specs.Words.{Room, State}
use Rattle.rules.specs.Book.{reach, row_tube, void, entry, book_of, waiting_of, stopped}
use Rattle.rules.specs.Laws.{occurs, entered, voids}
use Rattle.rules.proofs.Sound.{and_l, and_r}
use Rattle.rules.proofs.Lists.{up_out}
use Rattle.rules.proofs.Outcome.{one-chosen}
use Rattle.rules.proofs.Book.{row_agreed}
use Rattle.rules.proofs.OneLine.{one_line}
use Rattle.rules.proofs.Totals.{zeros, totals as entered-and-waiting}
use Rattle.closing.specs.Printed.{Line, repeats, splits, totals, enter_line, row_line, waiting_line, split_line, totals_line, lines_of}
use Rattle.closing.specs.Laws.{how_many, own, OneOwn, is_enters, is_repeats, is_waits, Tells, TotalsTell}

-- ---- how many numbers of a list pass

tally : (ℕ → Bool) → List ℕ → ℕ
tally q [] = 0
tally q (x ∷ l) = one (q x) + tally q l

tally_occurs : (t : ℕ) (l : List ℕ) → tally (λ x. eqb x t) l ≡ occurs t l
unfolding tally
tally_occurs t [] = refl
tally_occurs t (x ∷ l) = omega (arith, tally_occurs t l)

tally_entered : (l : List ℕ) → tally (λ x. not (eqb x 0)) l ≡ entered l
unfolding tally
tally_entered [] = refl
tally_entered (x ∷ l) = omega (arith, tally_entered l)

tally_none : (l : List ℕ) → tally (λ x. false) l ≡ 0
unfolding tally
tally_none [] = refl
tally_none (x ∷ l) = omega (arith, tally_none l)

tally_all : (l : List ℕ) → tally (λ x. true) l ≡ length l
unfolding tally
tally_all [] = refl
tally_all (x ∷ l) = omega (arith, tally_all l)

-- ---- how many lines pass

many-append : (p : Line → Bool) (l m : List Line) → how_many p (l ++ m) ≡ how_many p l + how_many p m
many-append p [] m = sym (zero-add (how_many p m))
many-append p (x ∷ l) m = omega (arith, many-append p l m)

-- lines made of numbers: where a line passes as its number does
many-map : (p : Line → Bool) (f : ℕ → Line) (q : ℕ → Bool) (g : ℕ → ℕ) (l : List ℕ) → ((x : ℕ) → Memᴰ x l → p (f x) ≡ q (g x)) → how_many p (map f l) ≡ tally q (map g l)
unfolding tally
many-map p f q g [] h = refl
many-map p f q g (x ∷ l) h = rw (h x (Memᴰ.head refl)) (omega (arith, many-map p f q g l (λ y m. h y (Memᴰ.tail m))))

map_id : (l : List ℕ) → map (λ x. x) l ≡ l
map_id [] = refl
map_id (x ∷ l) = ap (λ (m : List ℕ). x ∷ m) (map_id l)

-- a split line and the totals do not pass
ending : (ρ : Room) (s : State) (p : Line → Bool) → ((r : ℕ) → p (splits r) ≡ false) → p (totals_line ρ s) ≡ false
    → how_many p (split_line ρ s ++ (totals_line ρ s ∷ [])) ≡ 0
unfolding split_line
ending ρ s p split last = go (eqb (stopped ρ s) 2)
  where
    go : (b : Bool) → how_many p (pick b (splits (suc (reach ρ s)) ∷ []) [] ++ (totals_line ρ s ∷ [])) ≡ 0
    go true = rw (split (suc (reach ρ s)), last)
    go false = rw last

-- the rows pass as their entries do, the waiting lines as their tubes do
counted : (ρ : Room) (s : State) (p : Line → Bool) (q u : ℕ → Bool) → ((r : ℕ) → 1 ≤ r → r ≤ reach ρ s → p (row_line ρ s r) ≡ q (entry ρ s r)) → ((t : ℕ) → p (waiting_line s t) ≡ u t)
    → ((r : ℕ) → p (splits r) ≡ false) → p (totals_line ρ s) ≡ false → how_many p (lines_of ρ s) ≡ tally q (book_of ρ s) + tally u (waiting_of ρ s)
unfolding lines_of book_of
counted ρ s p q u rows waiting split last =
    let a = many-map p (row_line ρ s) q (entry ρ s) (up_to (reach ρ s)) (λ r m. let h = up_out (reach ρ s) r m in rows r h.0 h.1) in
    let b = many-map p (waiting_line s) u (λ t. t) (waiting_of ρ s) (λ t m. waiting t) ∙ ap (tally u) (map_id (waiting_of ρ s)) in
    omega (
      arith,
      many-append p (map (row_line ρ s) (up_to (reach ρ s))) (map (waiting_line s) (waiting_of ρ s) ++ (split_line ρ s ++ (totals_line ρ s ∷ []))),
      many-append p (map (waiting_line s) (waiting_of ρ s)) (split_line ρ s ++ (totals_line ρ s ∷ [])),
      ending ρ s p split last,
    )

-- ---- each tube's own line

own_row : (ρ : Room) (s : State) (t r : ℕ) → 1 ≤ t → own t (row_line ρ s r) ≡ eqb (entry ρ s r) t
unfolding row_line entry
own_row ρ s t r h = go (void ρ s r)
  where
    go : (b : Bool) → own t (pick b (repeats r (row_tube ρ s r)) (enter_line s r (row_tube ρ s r))) ≡ eqb (pick b 0 (row_tube ρ s r)) t
    go true = sym (ne_eqb 0 t (λ e. omega arith))
    go false = refl

pub one-own : OneOwn
unfolding waiting_line totals_line
one-own ρ s t h k =
    counted ρ s (own t) (λ x. eqb x t) (λ x. eqb x t) (λ r a b. own_row ρ s t r h) (λ v. refl) (λ r. refl) refl
    ∙ omega (arith, tally_occurs t (book_of ρ s), tally_occurs t (waiting_of ρ s), one_line ρ s t h k)

-- ---- totals

-- a row of the book has a tube, 1 to 64
pub row_tube_range : (ρ : Room) (s : State) (r : ℕ) → 1 ≤ r → r ≤ reach ρ s → (1 ≤ row_tube ρ s r) × (row_tube ρ s r ≤ 64)
row_tube_range ρ s r h k =
    let v = row_tube ρ s r in
    let t = ((one-chosen ρ s r v).0 (row_agreed ρ s r h k)).0.0 in
    (leb→le 1 v (and_l (leb 1 v) (leb v 64) t), leb→le v 64 (and_r (leb 1 v) (leb v 64) t))

enters_row : (ρ : Room) (s : State) (r : ℕ) → 1 ≤ r → r ≤ reach ρ s → is_enters (row_line ρ s r) ≡ not (eqb (entry ρ s r) 0)
unfolding row_line entry
enters_row ρ s r h k = go (void ρ s r)
  where
    go : (b : Bool) → is_enters (pick b (repeats r (row_tube ρ s r)) (enter_line s r (row_tube ρ s r))) ≡ not (eqb (pick b 0 (row_tube ρ s r)) 0)
    go true = refl
    go false = rw (ne_eqb (row_tube ρ s r) 0 (λ e. omega (arith, (row_tube_range ρ s r h k).0)))

repeats_row : (ρ : Room) (s : State) (r : ℕ) → 1 ≤ r → r ≤ reach ρ s → is_repeats (row_line ρ s r) ≡ eqb (entry ρ s r) 0
unfolding row_line entry
repeats_row ρ s r h k = go (void ρ s r)
  where
    go : (b : Bool) → is_repeats (pick b (repeats r (row_tube ρ s r)) (enter_line s r (row_tube ρ s r))) ≡ eqb (pick b 0 (row_tube ρ s r)) 0
    go true = refl
    go false = rw (ne_eqb (row_tube ρ s r) 0 (λ e. omega (arith, (row_tube_range ρ s r h k).0)))

waits_row : (ρ : Room) (s : State) (r : ℕ) → is_waits (row_line ρ s r) ≡ false
unfolding row_line
waits_row ρ s r = go (void ρ s r)
  where
    go : (b : Bool) → is_waits (pick b (repeats r (row_tube ρ s r)) (enter_line s r (row_tube ρ s r))) ≡ false
    go true = refl
    go false = refl

tells : (ρ : Room) (s : State) → Tells ρ s (length s.intake) (entered (book_of ρ s)) (voids (book_of ρ s)) (length (waiting_of ρ s))
unfolding waiting_line totals_line
tells ρ s =
    let a = counted ρ s is_enters (λ x. not (eqb x 0)) (λ x. false) (enters_row ρ s) (λ v. refl) (λ r. refl) refl in
    let b = counted ρ s is_repeats (λ x. eqb x 0) (λ x. false) (repeats_row ρ s) (λ v. refl) (λ r. refl) refl in
    let c = counted ρ s is_waits (λ x. false) (λ x. true) (λ r h k. waits_row ρ s r) (λ v. refl) (λ r. refl) refl in
    record {
      scanned = refl;
      entered = omega (arith, tally_entered (book_of ρ s), tally_none (waiting_of ρ s));
      voids = omega (arith, zeros (book_of ρ s), tally_occurs 0 (book_of ρ s), tally_none (waiting_of ρ s));
      waiting = omega (arith, tally_none (book_of ρ s), tally_all (waiting_of ρ s));
      whole = λ h. sym (entered-and-waiting ρ s h);
    }

-- no row, waiting or split line is the totals
not_row : (ρ : Room) (s : State) (r n e v w : ℕ) → ¬ (row_line ρ s r ≡ totals n e v w)
unfolding row_line
not_row ρ s r n e v w = go (void ρ s r)
  where
    go : (b : Bool) → ¬ (pick b (repeats r (row_tube ρ s r)) (enter_line s r (row_tube ρ s r)) ≡ totals n e v w)
    go true d = let z : ◌≡◌ {A = ℕ} 0 1 = cc in omega arith
    go false d = let z : ◌≡◌ {A = ℕ} 0 1 = cc in omega arith

not_waiting : (s : State) (t n e v w : ℕ) → ¬ (waiting_line s t ≡ totals n e v w)
unfolding waiting_line
not_waiting s t n e v w d = let z : ◌≡◌ {A = ℕ} 0 1 = cc in omega arith

not_split : (ρ : Room) (s : State) (n e v w : ℕ) → ¬ (Memᴰ (totals n e v w) (split_line ρ s))
unfolding split_line
not_split ρ s n e v w = go (eqb (stopped ρ s) 2)
  where
    go : (b : Bool) → ¬ (Memᴰ (totals n e v w) (pick b (splits (suc (reach ρ s)) ∷ []) []))
    go true m = let d = Memᴰ.eq_of_singleton m in let z : ◌≡◌ {A = ℕ} 0 1 = cc in omega arith
    go false m = Memᴰ.not-nil m

the_totals : (ρ : Room) (s : State) (n e v w : ℕ) → Memᴰ (totals n e v w) (lines_of ρ s) → totals n e v w ≡ totals_line ρ s
unfolding lines_of
the_totals ρ s n e v w m = rows (Memᴰ.append_cases (map (row_line ρ s) (up_to (reach ρ s))) m)
  where
    x : Line
    x = totals n e v w

    last : Memᴰ x (split_line ρ s) ⊎ Memᴰ x (totals_line ρ s ∷ []) → x ≡ totals_line ρ s
    last (inl k) = absurd (not_split ρ s n e v w k)
    last (inr k) = Memᴰ.eq_of_singleton k

    waiting : Memᴰ x (map (waiting_line s) (waiting_of ρ s)) ⊎ Memᴰ x (split_line ρ s ++ (totals_line ρ s ∷ [])) → x ≡ totals_line ρ s
    waiting (inl k) = let z = Memᴰ.of_map (waiting_line s) (waiting_of ρ s) k in absurd (not_waiting s z.0 n e v w z.2)
    waiting (inr k) = last (Memᴰ.append_cases (split_line ρ s) k)

    rows : Memᴰ x (map (row_line ρ s) (up_to (reach ρ s))) ⊎ Memᴰ x (map (waiting_line s) (waiting_of ρ s) ++ (split_line ρ s ++ (totals_line ρ s ∷ []))) → x ≡ totals_line ρ s
    rows (inl k) = let z = Memᴰ.of_map (row_line ρ s) (up_to (reach ρ s)) k in absurd (not_row ρ s z.0 n e v w z.2)
    rows (inr k) = waiting (Memᴰ.append_cases (map (waiting_line s) (waiting_of ρ s)) k)

pub totals_tell : TotalsTell
unfolding totals_line
totals_tell ρ s n e v w m =
    let d = the_totals ρ s n e v w m in
    let t = tells ρ s in
    let a : n ≡ length s.intake = cc in
    let b : e ≡ entered (book_of ρ s) = cc in
    let c : v ≡ voids (book_of ρ s) = cc in
    let f : w ≡ length (waiting_of ρ s) = cc in
    rw (a, b, c, f) t
