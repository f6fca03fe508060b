-- A 2av and a 2b of given numbers: what each test that the judges make answers, by the numbers that they narrowed.
use Rattle.std.proofs.Common.{◌≡◌, Bool, ◌||◌, refl, ap, sym, ◌∙◌, arith, List, [], ◌∷◌, ℕ, ◌≤◌, ltb, length}
use Rattle.std.proofs.Common.{Result}
use Rattle.std.specs.Result.{IsErr, IsErrAnd}
use Rattle.std.proofs.lemmas.Result.{err_from_is_err_and}
use Rattle.rules.specs.Tests.{all, first}
use Rattle.rules.specs.Words.{Pair, m1c, m2av, m2b}
use Rattle.rules.specs.Lent.{Memory, meaning, stored, line, pairs_of, cell_at, place, board_of, room_of, read}
use Rattle.rules.specs.Steps.{c2av, c2b, has, without, known, relayed}
use Rattle.rules.specs.declared.Bid.{Bid}
use Rattle.rules.specs.declared.Cell as cell_as_stored
use Rattle.rules.specs.declared.Message.{Message}
use Rattle.rules.specs.declared.Node.{Node}
use Rattle.rules.specs.declared.Refusal.{Refusal}
use Rattle.rules.specs.Replies.{number_of, number_in}
use Rattle.rules.proofs.Named.{positive}
use Rattle.rules.proofs.Codec.{At}
use Rattle.safe.specs.Safe.{Ready}
use Rattle.kept.specs.Kept.{Whole}
use Rattle.judge.specs.Judged.{verdict}
use Rattle.judge.specs.Narrow.{Cast}
use Rattle.judge.proofs.Past.{whole_sized, bounds, plain, fits_means}
use Rattle.vote.specs.Begun.{begun}
use Rattle.vote.proofs.Seat.{own_pairs, few}
use Rattle.vote.proofs.Says.{lists_in, begun-inside, early_2av, early_2b, says_2av, says_2b, same_begun, same_2av, same_2b}

-- one of the tests that both begin with failed: the exit of the `?`
module _ (m : Memory) (row node ballot tube : ℕ) (x : Refusal) (r : Result (Node × Bid) Refusal) (z : number_of x ≡ begun m row node ballot tube) (e : IsErr r × IsErrAnd r (λ y. y ≡ x)) where
  pub exit_2av : number_in r ≡ verdict m (c2av row node ballot tube)
  exit_2av = let p = err_from_is_err_and r e.1 in rw (p.1, p.2) (early_2av m row node ballot tube _ z (positive x))

  pub exit_2b : number_in r ≡ verdict m (c2b row node ballot tube)
  exit_2b = let p = err_from_is_err_and r e.1 in rw (p.1, p.2) (early_2b m row node ballot tube _ z (positive x))

-- the tests that both begin with passed: n and d are the given numbers, narrowed
module _ (m : Memory) {row node ballot tube : ℕ} {n : Node} {d : Bid} (w : Whole m) (z : 0 ≡ begun m row node ballot tube) (e : Cast row node ballot tube (n, d)) where
  went : begun m d.row.0 n.0 d.ballot.0 d.tube.0 ≡ 0
  went = same_begun m e ∙ sym z

  pub seat : At (room_of m.house) d.row.0 n.0
  seat = (begun-inside m d.row.0 n.0 d.ballot.0 d.tube.0 went).0

  pub askable : Ready m.house m.board m.heard n.0 d.ballot.0
  askable =
      let p = plain m w in
      let l = lists_in m w in
      record {
        nodes = (bounds m w).nodes;
        listed = l.0;
        backers = l.1;
        count = p.count;
        board = p.long;
        heard = (whole_sized m w).heard;
        node = seat.node;
        ballot = omega (arith, (begun-inside m d.row.0 n.0 d.ballot.0 d.tube.0 went).1);
      }

  pub own_few : {o : cell_as_stored.Cell} → o ≡ cell_at m.cells (place m.house.rows d.row.0 n.0) → o.count ≤ 16
  own_few q = few w seat _ refl _ q

  -- what the step's own tests answer together: x, y and so on are what each came to, and k is the message
  module _ {k : Message} where
    pub tests_2b : k ≡ line 5 d.row.0 d.ballot.0 n.0 d.tube.0 0 0 [] → (x y : Bool) → relayed (room_of m.house) (read m) d.row.0 d.ballot.0 d.tube.0 ≡ x
        → has (meaning k) (board_of m.board m.house.count) || ltb m.house.count m.house.capacity ≡ y
        → first ((x, 12) ∷ (y, 15) ∷ []) ≡ verdict m (c2b row node ballot tube)
    unfolding stored
    tests_2b a x y f g = says_2b m _ _ _ _ went x y f (sym (fits_means m (m2b d.row.0 d.ballot.0 n.0 d.tube.0) k tt a refl) ∙ g) ∙ same_2b m e

    -- o is the cell that was read
    pub tests_2av : {o : cell_as_stored.Cell} → o ≡ cell_at m.cells (place m.house.rows d.row.0 n.0) → k ≡ line 4 d.row.0 d.ballot.0 n.0 d.tube.0 0 0 [] → (x y u l v : Bool)
        → has (m1c d.row.0 d.ballot.0 d.tube.0) (board_of m.board m.house.count) ≡ x → all (λ (p : Pair). ltb p.1 d.ballot.0) (pairs_of o.count o.pairs) ≡ y
        → known (room_of m.house) (read m) d.row.0 n.0 d.ballot.0 d.tube.0 ≡ u → ltb (length (without d.tube.0 (pairs_of o.count o.pairs))) 16 ≡ l
        → has (meaning k) (board_of m.board m.house.count) || ltb m.house.count m.house.capacity ≡ v
        → first ((x, 9) ∷ (y, 10) ∷ (u, 11) ∷ (l, 14) ∷ (v, 15) ∷ []) ≡ verdict m (c2av row node ballot tube)
    unfolding stored
    tests_2av q a x y u l v f g h i j =
        let found = sym (own_pairs w seat _ refl _ q) in
        says_2av m _ _ _ _ went x y u l v f (ap (all (λ (p : Pair). ltb p.1 d.ballot.0)) found ∙ g) h (ap (λ (s : List Pair). ltb (length (without d.tube.0 s)) 16) found ∙ i)
        (sym (fits_means m (m2av d.row.0 d.ballot.0 n.0 d.tube.0) k tt a refl) ∙ j) ∙ same_2av m e
