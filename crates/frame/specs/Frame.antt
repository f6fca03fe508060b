-- A frame: what its bytes are read as, which call its number asks for, all that this call does, and the reply's bytes.
use Rattle.std.specs.Prelude.{◌≡◌, Option, Some, None, List, [], ◌∷◌, ◌++◌, ℕ, zero, suc, ◌*◌, eqb, leb, get_or, take, drop}
use Rattle.rules.specs.Tests.{pick}
use Rattle.rules.specs.Lent.{Memory}
use Rattle.rules.specs.Steps.{ask}
use Rattle.rules.specs.Replies.{Answer, Did, Opened}
use Rattle.rules.specs.declared.House.{House}
use Rattle.step.specs.Given.{call_of}
use Rattle.step.specs.declared.Post.{Post}
use Rattle.step.specs.declared.Post.TheVariants.{OneB, Relay, Accept, Other}
use Rattle.step.specs.declared.Step as step
use Rattle.step.specs.declared.Step.TheVariants.{Scan, Send1a, Send1b, Send1c, Send2av, Send2b, Hear, Foreign}
use Rattle.open.specs.Room.{room}
use Rattle.tell.specs.Past.{BookDid}
use Rattle.image.specs.Image.{four, four_at, image, house_at}
use Rattle.frame.specs.declared.Request.{Request}
use Rattle.frame.specs.declared.Asked.{Asked}
use Rattle.frame.specs.declared.Asked.TheVariants.{Opening, Step, Row, Book}

-- ---- the request

-- the first n numbers of four bytes each
abbrev pub numbers_at : List ℕ → ℕ → List ℕ
numbers_at s zero = []
numbers_at s (suc n) = numbers_at s n ++ (four_at s (4 * n) ∷ [])

-- call 1, arguments 8 × 4, pairs 32, house image 459, seven lengths of 4
unfoldable pub request_of : List ℕ → Request
request_of s = record {
  call = get_or s 0 0;
  arguments = numbers_at (drop 1 s) 8;
  pairs = take 32 (drop 33 s);
  house = house_at (drop 65 s);
  quorums = four_at s 524;
  weaks = four_at s 528;
  board = four_at s 532;
  cells = four_at s 536;
  heard = four_at s 540;
  book = four_at s 544;
  waiting = four_at s 548;
}

-- ---- the call

-- a foreign post by its kind: 1b 2, 2av 4, 2b 5
abbrev pub foreign_of : List ℕ → Post
foreign_of a = let at : ℕ → ℕ = λ k. get_or a k 0 in
    pick (eqb (at 0) 2) (OneB (record { row = at 1; ballot = at 2; node = at 3; mbal = at 5; mval = at 6; count = at 7 }))
    (pick (eqb (at 0) 4) (Relay (record { row = at 1; ballot = at 2; node = at 3; tube = at 4 }))
    (pick (eqb (at 0) 5) (Accept (record { row = at 1; ballot = at 2; node = at 3; tube = at 4 }))
    Other))

-- a step by its number, 1 to 8
abbrev pub step_of : ℕ → List ℕ → step.Step
step_of k a = let at : ℕ → ℕ = λ i. get_or a i 0 in
    pick (eqb k 1) (Send1a (at 0) (at 1))
    (pick (eqb k 2) (Send1b (at 0) (at 1) (at 2))
    (pick (eqb k 3) (Send1c (at 0) (at 1) (at 2))
    (pick (eqb k 4) (Send2av (at 0) (at 1) (at 2) (at 3))
    (pick (eqb k 5) (Send2b (at 0) (at 1) (at 2) (at 3))
    (pick (eqb k 6) (Hear (at 0) (at 1))
    (pick (eqb k 7) (Scan (at 0) (at 1))
    (Foreign (foreign_of a))))))))

-- what a call's number asks for; there is no call above 10
abbrev pub found_of : ℕ → List ℕ → Option Asked
found_of k a = let at : ℕ → ℕ = λ i. get_or a i 0 in
    pick (eqb k 0) (Some (Opening (at 0) (at 1) (at 2) (at 3)))
    (pick (leb k 8) (Some (Step (step_of k a)))
    (pick (eqb k 9) (Some (Row (at 0)))
    (pick (eqb k 10) (Some Book)
    None)))

-- the memory that a frame lends: the room's, and the book's areas for rows and waiting tubes
pub record Loan : Type 0 where
  pub memory : Memory
  pub book : List ℕ
  pub waiting : List ℕ

abbrev pub loan : Memory → List ℕ → List ℕ → Loan
loan m p q = record { memory = m; book = p; waiting = q }

-- the book's areas stay
pub record Aside (l l' : Loan) : Type 0 where
  pub book : l'.book ≡ l.book
  pub waiting : l'.waiting ≡ l.waiting

-- all that a frame's call does: with its pairs and its two lists, on the memory that it lends
unfoldable pub CallDid : Asked → List ℕ → List ℕ → List ℕ → Loan → Answer → Loan → Type 0
CallDid (Opening n f r c) pairs quorums weaks l a l' = Opened (room n f r c quorums weaks) l.memory a l'.memory × Aside l l'
CallDid (Step s) pairs quorums weaks l a l' = Did l.memory (call_of s pairs) a l'.memory × Aside l l'
CallDid (Row r) pairs quorums weaks l a l' = Did l.memory (ask r) a l'.memory × Aside l l'
CallDid Book pairs quorums weaks l a l' = BookDid l.memory l.book l.waiting l'.book l'.waiting a × (l'.memory ≡ l.memory)

-- ---- the reply

-- answer number 1, values 3 × 4, house image 459
unfoldable pub reply_of : Answer → House → List ℕ
reply_of a h = a.number ∷ (four a.value ++ (four a.waiting ++ (four a.stopped ++ image h)))
