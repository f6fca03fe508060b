-- A refusal's number is 1 to 19, so a result without one has found nothing.
use Rattle.std.proofs.Common.{◌≡◌, ◌≤◌, ℕ, arith, Result, Ok, Err, rules}
use Rattle.rules.specs.Replies.{number_of, number_in}
use Rattle.rules.specs.declared.Refusal.{Refusal}
use Rattle.rules.specs.declared.Refusal.TheVariants.{CountOutside, AbsentNode, SmallOverlap, SmallWeak, ShortArea, OutsideLimits, NotOnIntake, LowBallot, NotAsked, RelayedAlready, NotKnownSafe, NoQuorum, NoPromise, PairsFull, BoardFull, IntakeFull, NotInForm, SplitRow, Malformed}

pub positive : (x : Refusal) → ¬ (number_of x ≡ 0)
positive CountOutside = λ e. omega (arith, e)
positive AbsentNode = λ e. omega (arith, e)
positive SmallOverlap = λ e. omega (arith, e)
positive SmallWeak = λ e. omega (arith, e)
positive ShortArea = λ e. omega (arith, e)
positive OutsideLimits = λ e. omega (arith, e)
positive NotOnIntake = λ e. omega (arith, e)
positive LowBallot = λ e. omega (arith, e)
positive NotAsked = λ e. omega (arith, e)
positive RelayedAlready = λ e. omega (arith, e)
positive NotKnownSafe = λ e. omega (arith, e)
positive NoQuorum = λ e. omega (arith, e)
positive NoPromise = λ e. omega (arith, e)
positive PairsFull = λ e. omega (arith, e)
positive BoardFull = λ e. omega (arith, e)
positive IntakeFull = λ e. omega (arith, e)
positive NotInForm = λ e. omega (arith, e)
positive SplitRow = λ e. omega (arith, e)
positive Malformed = λ e. omega (arith, e)
