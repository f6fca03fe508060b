-- No row has two chosen tubes: the nodes not marked in the end kept the rules all along, and they are enough.
use mathlib.Core.Path.{◌≡◌, refl}
use mathlib.Core.Bool.{Bool, ◌&&◌}
use mathlib.Core.List.{List, [], ◌∷◌, Memᴰ}
use Prim.Native.Nat.{ℕ, ◌≤◌, ◌<◌}
use native.Mathlib.Omega.{arith}
use lib.Dec.{T, ltb→lt}
use Rattle.rules.specs.Tests.{all, bit, count, first}
use Rattle.rules.specs.Words.{Msg, Room, State}
use Rattle.rules.specs.Lent.{share, strong, tables}
use Rattle.rules.specs.Steps.{Call, chosen}
use Rattle.rules.proofs.Overlap.{pigeon}
use Rattle.rules.proofs.Sound.{and_l, and_r, all_sound, Clear, clear}
use Rattle.agree.specs.Room.{blank, step, run}
use Rattle.agree.specs.Agreement.{OneTube}
use Rattle.agree.proofs.Safe.{Fit, Inv, step_inv, start_inv, one-chosen}
use Rattle.agree.proofs.Link.{view, Sub, Member, sets, chosen_sound, Next, still, link_step}
use Rattle.agree.proofs.Grow.{marks_grow}

-- the nodes that are not marked
abbrev Unmarked : (ℕ → Bool) → ℕ → Type 0
Unmarked m a = ¬ T (m a)

-- tables that pass opening, and at most f marked nodes: what proofs/Safe asks of the sets
fits : (ρ : Room) → first (tables ρ) ≡ 0 → (m : ℕ → Bool) → count m ρ.nodes ≤ ρ.faulty → Fit (sets ρ (Unmarked m))
fits ρ ok m le = record { overlap = overlap; honest = honest }
  where
    passed : Clear (tables ρ)
    passed = clear (tables ρ) tt ok

    overlap : (p q : ℕ) → Memᴰ p ρ.quorums → Memᴰ q ρ.quorums → (a : ℕ) × Member ρ a p × Member ρ a q × Unmarked m a
    overlap p q hp hq =
        let t = all_sound (share ρ p) ρ.quorums (all_sound (λ p. all (share ρ p) ρ.quorums) ρ.quorums passed.1.0 p hp) q hq in
        let l : ρ.faulty < count (λ n. bit p n && bit q n) ρ.nodes = ltb→lt ρ.faulty (count (λ n. bit p n && bit q n) ρ.nodes) t in
        let z = pigeon (λ n. bit p n && bit q n) m ρ.nodes (omega arith) in
        let u : T (bit p z.0 && bit q z.0) = rw z.2 tt in
        (z.0, (z.1, and_l (bit p z.0) (bit q z.0) u), (z.1, and_r (bit p z.0) (bit q z.0) u), λ v. rw z.3 at v)

    honest : (w : ℕ) → Memᴰ w ρ.weaks → (a : ℕ) × Member ρ a w × Unmarked m a
    honest w hw =
        let t = all_sound (strong ρ) ρ.weaks passed.1.1.0 w hw in
        let l : ρ.faulty < count (bit w) ρ.nodes = ltb→lt ρ.faulty (count (bit w) ρ.nodes) t in
        let z = pigeon (bit w) m ρ.nodes (omega arith) in
        (z.0, (z.1, rw z.2 tt), λ v. rw z.3 at v)

module _ (ρ : Room) (good : ℕ → Type 0) (fit : Fit (sets ρ good)) where
  -- the invariant of a row, over some history that holds h and the board
  pub record Hist (r : ℕ) (h : List Msg) (s : State) : Type 0 where
    pub hist : List Msg
    pub sub : Sub s.board hist
    pub keep : Sub h hist
    pub inv : Inv r (sets ρ good) (view r hist s)

  move_hist : (r : ℕ) (h : List Msg) (s t : State) (i : Hist r h s) → Next ρ good r i.hist s t → Hist r h t
  move_hist r h s t i n = record {
    hist = n.hist;
    sub = n.sub;
    keep = λ x o. n.keep x (i.keep x o);
    inv = step_inv r (sets ρ good) fit (view r i.hist s) (view r n.hist t) i.inv n.move;
  }

  run_hist : (r : ℕ) (h : List Msg) (s : State) (cs : List Call) → ((n : ℕ) → T ((run ρ s cs).marks n) → ¬ good n) → Hist r h s → Hist r h (run ρ s cs)
  unfolding run
  run_hist r h s [] bad i = i
  run_hist r h s (c ∷ cs) bad i = run_hist r h (step ρ s c) cs bad
      (move_hist r h s (step ρ s c) i (link_step ρ good r i.hist s c i.sub (λ n t. bad n (marks_grow ρ (step ρ s c) cs n t))))

  open_hist : (r : ℕ) → Hist r [] blank
  open_hist r = record {
    hist = [];
    sub = λ x o. o;
    keep = λ x o. o;
    inv = start_inv r (sets ρ good) fit (view r [] blank) refl (λ a. refl);
  }

  -- the same history, held to the board of now
  again : (r : ℕ) (h : List Msg) (s : State) → Hist r h s → Hist r s.board s
  again r h s i = record { hist = i.hist; sub = i.sub; keep = i.sub; inv = i.inv }

  -- what was chosen while the board was that of s, and what is chosen now
  agree : (r : ℕ) (s t : State) → Hist r s.board t → (b c v w : ℕ) → T (chosen ρ s r b v) → T (chosen ρ t r c w) → v ≡ w
  agree r s t i b c v w x y =
      one-chosen r (sets ρ good) fit (view r i.hist t) v w i.inv
      (chosen_sound ρ good i.hist s t i.keep r b v x) (chosen_sound ρ good i.hist t t i.sub r c w y)

-- What a loss may do: messages go, a node that lost a cell is marked, marks stay.
pub record Lost (s t : State) : Type 0 where
  pub board : Sub t.board s.board
  pub cells : (r n : ℕ) → ¬ T (t.marks n) → t.cells r n ≡ s.cells r n
  pub marks : (n : ℕ) → T (s.marks n) → T (t.marks n)

pub after_loss : (ρ : Room) → first (tables ρ) ≡ 0 → (cs ds : List Call) (t : State) → Lost (run ρ blank cs) t
    → count (run ρ t ds).marks ρ.nodes ≤ ρ.faulty
    → (r b c v w : ℕ) → T (chosen ρ (run ρ blank cs) r b v) → T (chosen ρ (run ρ t ds) r c w) → v ≡ w
after_loss ρ ok cs ds t lost le r b c v w x y =
    let s = run ρ blank cs in
    let m = (run ρ t ds).marks in
    let good = Unmarked m in
    let fit = fits ρ ok m le in
    let i = run_hist ρ good fit r [] blank cs (λ n u g. g (marks_grow ρ t ds n (lost.marks n u))) (open_hist ρ good fit r) in
    let p = again ρ good fit r [] s i in
    let k = move_hist ρ good fit r s.board s t p
    (still ρ good r p.hist s t (λ z o. p.sub z (lost.board z o)) (λ a g. lost.cells r a (λ u. g (marks_grow ρ t ds a u)))) in
    let j = run_hist ρ good fit r s.board t ds (λ n u g. g u) k in
    agree ρ good fit r s (run ρ t ds) j b c v w x y

-- nothing lost
pub one_tube : OneTube
one_tube ρ ok cs ds = after_loss ρ ok cs ds (run ρ blank cs) (record { board = λ x o. o; cells = λ r n u. refl; marks = λ n u. u })
