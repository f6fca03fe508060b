-- "The sheet program": what is kept between lines, what each line does and prints, and all that a sheet prints.
use Rattle.std.specs.Prelude.{◌&&◌, List, [], ◌∷◌, ◌++◌, ℕ, suc, eqb, leb, ltb, length, get_or, set}
use Rattle.rules.specs.Tests.{pick, first}
use Rattle.rules.specs.Words.{Room}
use Rattle.rules.specs.Lent.{Memory, room_of, read}
use Rattle.rules.specs.Steps.{ask}
use Rattle.rules.specs.Replies.{Answer, gate, answer, after, open_reply, opening}
use Rattle.step.specs.Given.{call_of}
use Rattle.lines.specs.declared.Heading.TheVariants.{Nodes, Faulty, Rows, Capacity, Quorum, Weak}
use Rattle.lines.specs.declared.Line.{Line}
use Rattle.lines.specs.declared.Line.TheVariants.{Heading, Step, Bad}
use Rattle.lines.specs.declared.Parsed.{Parsed}
use Rattle.lines.specs.Splits.{parts}
use Rattle.lines.specs.Grammar.{parsed}
use Rattle.closing.specs.Printed.{answer_text, closing_of}

-- ---- "Heading lines in this order: nodes, faulty, rows, capacity, one or more quorum, one or more weak, then step lines."

-- what is due: 0 to 3 a count, 4 the first quorum, 5 a quorum or the first weak, 6 a weak or the first step, 7 a step, 8 nothing more
pub record Heads : Type 0 where
  pub due : ℕ
  pub counts : List ℕ
  pub quorums : List ℕ
  pub weaks : List ℕ

-- a line's place in the order; 9 for a line that is no heading
abbrev pub sort : Line → ℕ
sort (Heading (Nodes n)) = 0
sort (Heading (Faulty n)) = 1
sort (Heading (Rows n)) = 2
sort (Heading (Capacity n)) = 3
sort (Heading (Quorum n)) = 4
sort (Heading (Weak n)) = 5
sort (Step s) = 9
sort Bad = 9

-- a heading's number
abbrev pub said : Line → ℕ
said (Heading (Nodes n)) = n
said (Heading (Faulty n)) = n
said (Heading (Rows n)) = n
said (Heading (Capacity n)) = n
said (Heading (Quorum n)) = n
said (Heading (Weak n)) = n
said (Step s) = 0
said Bad = 0

-- what is due after a line of the sort k: the sort that was due is followed by the next, a quorum or a weak may come again,
-- "the first line of any other form begins the steps" after a weak, and before that it is bad
unfoldable pub next : (due k : ℕ) → ℕ
next d k = pick (eqb k d) (suc d) (pick (leb 5 d && eqb (suc k) d) d (pick (eqb d 6) 7 8))

-- a list's next set; 64 may be listed, so of a longer list 65 are kept, which opening refuses
unfoldable pub added : ℕ → List ℕ → List ℕ
added n l = pick (ltb (length l) 65) (l ++ (n ∷ [])) l

-- the heads with the number n of a heading of the sort k
unfoldable pub kept : Heads → (k n : ℕ) → Heads
kept h k n = record {
  due = next h.due k;
  counts = set h.counts k n;
  quorums = pick (eqb k 4) (added n h.quorums) h.quorums;
  weaks = pick (eqb k 5) (added n h.weaks) h.weaks;
}

abbrev pub due_now : Heads → ℕ → Heads
due_now h d = record { due = d; counts = h.counts; quorums = h.quorums; weaks = h.weaks }

-- the heads after a line while a heading is due: one that ends the headings is not kept
unfoldable pub headed : Heads → Line → Heads
headed h l = pick (ltb (next h.due (sort l)) 7) (kept h (sort l) (said l)) (due_now h (next h.due (sort l)))

-- the room that the headings ask for
unfoldable pub room_for : Heads → Room
room_for h = record {
  nodes = get_or h.counts 0 0;
  faulty = get_or h.counts 1 0;
  rows = get_or h.counts 2 0;
  capacity = get_or h.counts 3 0;
  quorums = h.quorums;
  weaks = h.weaks;
}

-- ---- a sheet between two lines: its headings and its memory; and what is printed besides

pub record Sheet : Type 0 where
  pub heads : Heads
  pub memory : Memory

pub record Turn : Type 0 where
  pub sheet : Sheet
  pub prints : List ℕ

abbrev pub sheet_of : Heads → Memory → Sheet
sheet_of h m = record { heads = h; memory = m }

abbrev pub turn : Heads → Memory → List ℕ → Turn
turn h m s = record { sheet = sheet_of h m; prints = s }

-- "a malformed line"
abbrev pub malformed : List ℕ
malformed = answer_text 19 0

-- an accepted step prints its number and a scan's tube, a refused one its number: any other step's value is 0
abbrev pub answer_print : Answer → List ℕ
answer_print a = answer_text a.number a.value

-- "First the opening": the room opens, or the sheet ends
unfoldable pub opens : Heads → Memory → Turn
opens h m = let k = open_reply (room_for h) m in turn (due_now h (pick (eqb k 0) 7 8)) (opening (room_for h) m) (answer_text k 0)

-- "then one line a step"; "A bad step line prints `answer=19` and the next is read."
abbrev pub stepped : Heads → Memory → Line → List ℕ → Turn
stepped h m (Step s) l = turn h (after m (call_of s l)) (answer_print (answer m (call_of s l)))
stepped h m (Heading x) l = turn h m malformed
stepped h m Bad l = turn h m malformed

-- the line that begins the steps: the opening, and then the step, if the room opened
unfoldable pub begins : Heads → Memory → Parsed → Turn
begins h m p = let o = opens h m in let t = stepped o.sheet.heads o.sheet.memory p.line p.pairs in
    pick (eqb o.sheet.heads.due 7) (record { sheet = t.sheet; prints = o.prints ++ t.prints }) o

-- a line while a heading is due
unfoldable pub heading : Heads → Memory → Parsed → Turn
heading h m p = let g = headed h p.line in
    pick (eqb g.due 7) (begins g m p) (turn g m (pick (eqb g.due 8) malformed []))

-- what a line does and prints
unfoldable pub takes : Sheet → Parsed → Turn
takes s p = let h = s.heads in let m = s.memory in
    pick (eqb h.due 8) (turn h m []) (pick (eqb h.due 7) (stepped h m p.line p.pairs) (heading h m p))

-- ---- the end

-- the closing lines, or the number of the test at the gate that memory fails
unfoldable pub closes : Memory → List ℕ
closes m = let k = first (gate m (ask 0)) in pick (eqb k 0) (closing_of (room_of m.house) (read m)) (answer_text k 0)

-- what the end of the input prints: "a bad or missing heading line prints `answer=19`"
unfoldable pub ends : Sheet → List ℕ
ends s = let h = s.heads in let m = s.memory in let o = opens h m in
    pick (eqb h.due 8) []
    (pick (eqb h.due 7) (closes m)
    (pick (eqb h.due 6) (o.prints ++ pick (eqb o.sheet.heads.due 7) (closes o.sheet.memory) []) malformed))

-- ---- all that is printed

-- nothing was read yet
abbrev pub unread : Heads
unread = record { due = 0; counts = 0 ∷ 0 ∷ 0 ∷ 0 ∷ []; quorums = []; weaks = [] }

-- the lines of an input: nothing after the last newline is no line
abbrev pub trimmed : List (List ℕ) → List (List ℕ)
trimmed [] = []
trimmed ([] ∷ []) = []
trimmed ((b ∷ s) ∷ []) = (b ∷ s) ∷ []
trimmed (s ∷ t ∷ l) = s ∷ trimmed (t ∷ l)

abbrev pub lines_in : List ℕ → List (List ℕ)
lines_in s = trimmed (parts 10 s)

-- what the lines of a sheet print, and its end
unfoldable pub printed : Sheet → List (List ℕ) → List ℕ
printed s [] = ends s
printed s (l ∷ ls) = let t = takes s (parsed l) in t.prints ++ printed t.sheet ls
