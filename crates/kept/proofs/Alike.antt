-- A run on memory in form is the run of the same calls in the room, and no call of it is refused for the form.
use mathlib.Core.Path.{◌≡◌, refl, ap, sym, subst, ◌∙◌}
use mathlib.Core.Bool.{Bool, true, false, ◌&&◌}
use mathlib.Core.Logic.{◌⊎◌, inl, inr}
use mathlib.Core.List.{List, [], ◌∷◌}
use Prim.Native.Nat.{ℕ, suc}
use native.Mathlib.Omega.{arith}
use borrow.Author.Tests.{eqb-true, eqb-false, ne_eqb}
use lib.Dec.{T, eqb}
use Rattle.rules.specs.Tests.{pick, all, first}
use Rattle.rules.specs.Words.{Room, State}
use Rattle.rules.specs.Lent.{Memory, Typed, room_of, read, counts, long, in_form}
use Rattle.rules.specs.declared.House.{House}
use Rattle.rules.specs.Steps.{Call, scan, c1a, c1b, c1c, c2av, c2b, hear, foreign, ask, book, effect, put}
use Rattle.rules.specs.Replies.{rules, areas, reply, after, runs, open_reply, opening}
use Rattle.rules.proofs.Sound.{and_l, and_r}
use Rattle.agree.specs.Room.{blank, step, run}
use Rattle.kept.specs.Kept.{Whole}
use Rattle.kept.proofs.Ready.{own, owned, allowed}
use Rattle.kept.proofs.Stay.{refused, obeyed, same_room, stays_whole}
use Rattle.kept.proofs.Open.{begun}

-- ---- past the gate

is_true : (a : Bool) → T a → a ≡ true
is_true true t = refl
is_true false t = absurd t

gate-passed : (a b d f : Bool) (x : ℕ) → T a → T b → T f → pick a (pick (b && d) (pick f x 17) 5) 17 ≡ pick d x 5
gate-passed a b d f x s t u = rw (is_true a s, is_true b t, is_true f u)

-- of memory in form only the book's areas and the rules are left to test
pub left : (m : Memory) (c : Call) → Whole m → reply m c ≡ pick (areas m.house c) (first (rules (room_of m.house) (read m) c)) 5
unfolding reply
left m c w = gate-passed (counts m.house) (long m) (areas m.house c) (in_form m) (first (rules (room_of m.house) (read m) c)) w.counts w.long w.form

-- a reply is 0 or a number of the list
first_in : (p : ℕ → Bool) (l : List (Bool × ℕ)) (k : ℕ) → T (all (λ (x : Bool × ℕ). p x.1) l) → first l ≡ suc k → T (p (suc k))
first_in p [] k t e = absurd (omega arith)
first_in p (x ∷ l) k t e = go x.0 (first_in p l k (and_r (p x.1) (all (λ (x : Bool × ℕ). p x.1) l) t)) e
  where
    go : (b : Bool) → (first l ≡ suc k → T (p (suc k))) → pick b (first l) x.1 ≡ suc k → T (p (suc k))
    go true r d = r d
    go false r d = subst (λ (n : ℕ). T (p n)) d (and_l (p x.1) (all (λ (x : Bool × ℕ). p x.1) l) t)

by_rule : (ρ : Room) (s : State) (c : Call) (k : ℕ) → first (rules ρ s c) ≡ suc k → T (own (suc k))
by_rule ρ s c k e = first_in own (rules ρ s c) k (owned ρ s c) e

never_17 : (m : Memory) (c : Call) → Whole m → ¬ (reply m c ≡ 17)
never_17 m c w e = go (areas m.house c) (sym (left m c w) ∙ e)
  where
    go : (b : Bool) → ¬ (pick b (first (rules (room_of m.house) (read m) c)) 5 ≡ 17)
    go true d = by_rule (room_of m.house) (read m) c 16 d
    go false d = omega arith

-- only the book is lent areas of its own
abbrev Book : Call → Type 0
Book c = (p q : List ℕ) × (c ≡ book p q)

is_book : (h : House) (c : Call) → areas h c ≡ false → Book c
is_book h (book p q) e = (p, q, refl)
is_book h (scan a b) e = absurd (subst T e tt)
is_book h (c1a r b) e = absurd (subst T e tt)
is_book h (c1b r n b) e = absurd (subst T e tt)
is_book h (c1c r b v) e = absurd (subst T e tt)
is_book h (c2av r n b v) e = absurd (subst T e tt)
is_book h (c2b r n b v) e = absurd (subst T e tt)
is_book h (hear n k) e = absurd (subst T e tt)
is_book h (foreign p) e = absurd (subst T e tt)
is_book h (ask r) e = absurd (subst T e tt)

only_5 : (m : Memory) (c : Call) → Whole m → reply m c ≡ 5 → (p q : List ℕ) × (c ≡ book p q) × ¬ (T (areas m.house c))
only_5 m c w e = go (areas m.house c) refl (sym (left m c w) ∙ e)
  where
    go : (b : Bool) → areas m.house c ≡ b → pick b (first (rules (room_of m.house) (read m) c)) 5 ≡ 5 → (p q : List ℕ) × (c ≡ book p q) × ¬ (T (areas m.house c))
    go true a d = absurd (by_rule (room_of m.house) (read m) c 4 d)
    go false a d = let z = is_book m.house c a in (z.0, z.1, z.2, λ t. subst T a t)

-- ---- one call

pub step_or_not : (m : Memory) (c : Call) → Typed m.house
    → (read (after m c) ≡ read m) ⊎ ((first (rules (room_of m.house) (read m) c) ≡ 0) × (read (after m c) ≡ put (read m) (effect (read m) c)))
step_or_not m c t = go (eqb (reply m c) 0) refl
  where
    go : (b : Bool) → eqb (reply m c) 0 ≡ b → (read (after m c) ≡ read m) ⊎ ((first (rules (room_of m.house) (read m) c) ≡ 0) × (read (after m c) ≡ put (read m) (effect (read m) c)))
    go true e = let k = eqb-true (reply m c) 0 e in inr (allowed m c k, obeyed m c t k)
    go false e = inl (ap read (refused m c (eqb-false (reply m c) 0 e)))

-- a book's step leaves the room as it is, allowed or not
book_stays : (ρ : Room) (s : State) (c : Call) → Book c → step ρ s c ≡ s
book_stays ρ s c z = subst (λ (d : Call). step ρ s d ≡ s) (sym z.2) (go (eqb (first (rules ρ s (book z.0 z.1))) 0))
  where
    go : (b : Bool) → pick b s s ≡ s
    go true = refl
    go false = refl

refused_step : (m : Memory) (c : Call) → Whole m → ¬ (reply m c ≡ 0) → read m ≡ step (room_of m.house) (read m) c
refused_step m c w n = go (areas m.house c) refl (left m c w)
  where
    go : (b : Bool) → areas m.house c ≡ b → reply m c ≡ pick b (first (rules (room_of m.house) (read m) c)) 5 → read m ≡ step (room_of m.house) (read m) c
    go true a d = rw (ne_eqb (first (rules (room_of m.house) (read m) c)) 0 (λ z. n (d ∙ z)))
    go false a d = sym (book_stays (room_of m.house) (read m) c (is_book m.house c a))

pub one-step : (m : Memory) (c : Call) → Whole m → read (after m c) ≡ step (room_of m.house) (read m) c
one-step m c w = go (eqb (reply m c) 0) refl
  where
    go : (b : Bool) → eqb (reply m c) 0 ≡ b → read (after m c) ≡ step (room_of m.house) (read m) c
    go true e =
        let k = eqb-true (reply m c) 0 e in
        obeyed m c w.typed k ∙ sym (ap (λ (x : ℕ). pick (eqb x 0) (put (read m) (effect (read m) c)) (read m)) (allowed m c k))
    go false e = let k = eqb-false (reply m c) 0 e in ap read (refused m c k) ∙ refused_step m c w k

-- ---- runs

pub runs_whole : (m : Memory) (cs : List Call) → Whole m → Whole (runs m cs)
unfolding runs
runs_whole m [] w = w
runs_whole m (c ∷ cs) w = runs_whole (after m c) cs (stays_whole m c w)

pub runs-room : (m : Memory) (cs : List Call) → room_of (runs m cs).house ≡ room_of m.house
unfolding runs
runs-room m [] = refl
runs-room m (c ∷ cs) = runs-room (after m c) cs ∙ same_room m c

pub runs_alike : (m : Memory) (cs : List Call) → Whole m → read (runs m cs) ≡ run (room_of m.house) (read m) cs
unfolding runs run
runs_alike m [] w = refl
runs_alike m (c ∷ cs) w =
    runs_alike (after m c) cs (stays_whole m c w)
    ∙ ap (λ (ρ : Room). run ρ (read (after m c)) cs) (same_room m c)
    ∙ ap (λ (s : State). run (room_of m.house) s cs) (one-step m c w)

-- ---- from an opening

module _ (ρ : Room) (m : Memory) (e : open_reply ρ m ≡ 0) where
  pub opened_whole : (cs : List Call) → Whole (runs (opening ρ m) cs)
  opened_whole cs = runs_whole (opening ρ m) cs (begun ρ m e).whole

  pub opened-room : (cs : List Call) → room_of (runs (opening ρ m) cs).house ≡ ρ
  opened-room cs = runs-room (opening ρ m) cs ∙ (begun ρ m e).room

  pub opened_17 : (cs : List Call) (c : Call) → ¬ (reply (runs (opening ρ m) cs) c ≡ 17)
  opened_17 cs c = never_17 (runs (opening ρ m) cs) c (opened_whole cs)

  pub opened_5 : (cs : List Call) (c : Call) → reply (runs (opening ρ m) cs) c ≡ 5
      → (p q : List ℕ) × (c ≡ book p q) × ¬ (T (areas (runs (opening ρ m) cs).house c))
  opened_5 cs c = only_5 (runs (opening ρ m) cs) c (opened_whole cs)

  pub opened-run : (cs : List Call) → read (runs (opening ρ m) cs) ≡ run ρ blank cs
  opened-run cs =
      let b = begun ρ m e in
      runs_alike (opening ρ m) cs b.whole
      ∙ ap (λ (σ : Room). run σ (read (opening ρ m)) cs) b.room
      ∙ ap (λ (s : State). run ρ s cs) b.empty
