-- A sheet's steps are calls after one opening: memory is as it was until the room opens, and each step then is one call more.
use mathlib.Core.Path.{◌≡◌, refl, sym, ap, subst, ◌∙◌}
use mathlib.Core.Bool.{Bool, true, false}
use mathlib.Core.List.{List, [], ◌∷◌, ◌++◌}
use Prim.Native.Nat.{ℕ}
use native.Mathlib.Omega.{arith}
use lib.Dec.{eqb}
use borrow.Author.Tests.{eqb-true, eqb-false}
use Rattle.rules.specs.Tests.{pick}
use Rattle.rules.specs.Lent.{Memory, room_of, read}
use Rattle.rules.specs.Steps.{Call}
use Rattle.rules.specs.Replies.{after, runs, open_reply, opening}
use Rattle.kept.specs.Kept.{Whole}
use Rattle.kept.proofs.Alike.{opened_whole}
use Rattle.step.specs.Given.{call_of}
use Rattle.lines.specs.declared.Line.{Line}
use Rattle.lines.specs.declared.Line.TheVariants.{Heading, Step, Bad}
use Rattle.lines.specs.declared.Parsed.{Parsed}
use Rattle.lines.specs.Grammar.{parsed}
use Rattle.page.specs.Sheet.{Heads, Sheet, Turn, sheet_of, turn, unread, headed, room_for, malformed, opens, stepped, begins, heading, takes, closes}
use Rattle.closing.specs.Printed.{closing_of}
use Rattle.ending.proofs.Laws.{closed}
use Rattle.session.specs.Laws.{sheet_after, Since}

-- one call more
runs-more : (m : Memory) (cs : List Call) (c : Call) → runs m (cs ++ (c ∷ [])) ≡ after (runs m cs) c
unfolding runs
runs-more m [] c = refl
runs-more m (d ∷ cs) c = runs-more (after m d) cs c

since_more : (m m' : Memory) (c : Call) → Since m m' → Since m (after m' c)
since_more m m' c g = record {
  room = g.room;
  calls = g.calls ++ (c ∷ []);
  opened = g.opened;
  memory = ap (λ (x : Memory). after x c) g.memory ∙ sym (runs-more (opening g.room m) g.calls c);
}

-- a sheet that began on the memory m
record Ran (m : Memory) (s : Sheet) : Type 0 where
  before : (s.heads.due ≡ 7 → ⊥) → (s.heads.due ≡ 8 → ⊥) → s.memory ≡ m
  since : s.heads.due ≡ 7 → Since m s.memory

-- of a sheet that has ended nothing is asked
over : (m : Memory) (s : Sheet) → s.heads.due ≡ 8 → Ran m s
over m s e = record { before = λ n k. absurd (k e); since = λ h. absurd (omega (arith, e, h)) }

step_since : (m : Memory) (h : Heads) (m' : Memory) (l : Line) (ps : List ℕ) → Since m m' → Since m (stepped h m' l ps).sheet.memory
step_since m h m' (Step s) ps g = since_more m m' (call_of s ps) g
step_since m h m' (Heading x) ps g = g
step_since m h m' Bad ps g = g

step_heads : (h : Heads) (m : Memory) (l : Line) (ps : List ℕ) → (stepped h m l ps).sheet.heads ≡ h
step_heads h m (Step s) ps = refl
step_heads h m (Heading x) ps = refl
step_heads h m Bad ps = refl

ran_step : (m : Memory) (h : Heads) (m' : Memory) (l : Line) (ps : List ℕ) → h.due ≡ 7 → Since m m' → Ran m (stepped h m' l ps).sheet
ran_step m h m' l ps e g = record {
  before = λ n k. absurd (n (ap (λ (x : Heads). x.due) (step_heads h m' l ps) ∙ e));
  since = λ d. step_since m h m' l ps g;
}

-- what holds of both choices
by : (P : Turn → Type 0) (q : Bool) (a b : Turn) → (q ≡ true → P a) → (q ≡ false → P b) → P (pick q a b)
by P true a b f g = f refl
by P false a b f g = g refl

abbrev due_at : Bool → ℕ
due_at q = pick q 7 8

opened-seven : (q : Bool) → due_at q ≡ 7 → q ≡ true
opened-seven true e = refl
opened-seven false e = absurd (omega (arith, e))

opened-eight : (q : Bool) → (due_at q ≡ 7 → ⊥) → due_at q ≡ 8
opened-eight true n = absurd (n refl)
opened-eight false n = refl

-- the line that begins the steps, on the memory as it was
ran_begins : (m : Memory) (h : Heads) (p : Parsed) → Ran m (begins h m p).sheet
unfolding begins opens runs
ran_begins m h p =
    let q = eqb (open_reply (room_for h) m) 0 in
    let o = (opens h m).sheet in
    let t = stepped o.heads o.memory p.line p.pairs in
    let done : open_reply (room_for h) m ≡ 0 → Since m (opening (room_for h) m) = λ k. record { room = room_for h; calls = []; opened = k; memory = refl } in
    by (λ (t : Turn). Ran m t.sheet) (eqb (due_at q) 7) (record { sheet = t.sheet; prints = (opens h m).prints ++ t.prints }) (opens h m)
    (λ e. let d = eqb-true (due_at q) 7 e in ran_step m o.heads o.memory p.line p.pairs d (done (eqb-true (open_reply (room_for h) m) 0 (opened-seven q d))))
    (λ e. over m o (opened-eight q (eqb-false (due_at q) 7 e)))

ran_heading : (m : Memory) (h : Heads) (p : Parsed) → Ran m (heading h m p).sheet
unfolding heading
ran_heading m h p =
    let g = headed h p.line in
    by (λ (t : Turn). Ran m t.sheet) (eqb g.due 7) (begins g m p) (turn g m (pick (eqb g.due 8) malformed []))
    (λ e. ran_begins m g p)
    (λ e. record { before = λ n k. refl; since = λ d. absurd (eqb-false g.due 7 e d) })

ran_takes : (m : Memory) (s : Sheet) (p : Parsed) → Ran m s → Ran m (takes s p).sheet
unfolding takes
ran_takes m s p g =
    let h = s.heads in
    by (λ (t : Turn). Ran m t.sheet) (eqb h.due 8) (turn h s.memory []) (pick (eqb h.due 7) (stepped h s.memory p.line p.pairs) (heading h s.memory p))
    (λ e. g)
    (λ n. by (λ (t : Turn). Ran m t.sheet) (eqb h.due 7) (stepped h s.memory p.line p.pairs) (heading h s.memory p)
    (λ e. let d = eqb-true h.due 7 e in ran_step m h s.memory p.line p.pairs d (g.since d))
    (λ k. let same = g.before (eqb-false h.due 7 k) (eqb-false h.due 8 n) in
    subst (λ (x : Memory). Ran m (heading h x p).sheet) (sym same) (ran_heading m h p)))

ran_lines : (m : Memory) (s : Sheet) (ls : List (List ℕ)) → Ran m s → Ran m (sheet_after s ls)
unfolding sheet_after
ran_lines m s [] g = g
ran_lines m s (l ∷ ls) g = ran_lines m (takes s (parsed l)).sheet ls (ran_takes m s (parsed l) g)

pub steps_are_calls : (m : Memory) (ls : List (List ℕ)) → let s = sheet_after (sheet_of unread m) ls in s.heads.due ≡ 7 → Since m s.memory
steps_are_calls m ls = (ran_lines m (sheet_of unread m) ls (record { before = λ n k. refl; since = λ e. absurd (omega (arith, e)) })).since

pub closes_in_form : (m m' : Memory) → Since m m' → closes m' ≡ closing_of (room_of m'.house) (read m')
closes_in_form m m' g = closed m' (subst (λ (x : Memory). Whole x) (sym g.memory) (opened_whole g.room m g.opened g.calls))
