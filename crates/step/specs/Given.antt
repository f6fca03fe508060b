-- A step as it is handed over, in the words of the rules.
use Rattle.std.specs.Prelude.{List, ℕ}
use Rattle.rules.specs.Steps as steps
use Rattle.step.specs.declared.Post.{Post}
use Rattle.step.specs.declared.Post.TheVariants.{OneB, Relay, Accept, Other}
use Rattle.step.specs.declared.Step.{Step}
use Rattle.step.specs.declared.Step.TheVariants.{Scan, Send1a, Send1b, Send1c, Send2av, Send2b, Hear, Foreign}

-- the pair array belongs to a 1b
abbrev pub post_of : Post → List ℕ → steps.Post
post_of (OneB p) l = steps.p1b p.row p.ballot p.node p.mbal p.mval p.count l
post_of (Relay v) l = steps.p2av v.row v.ballot v.node v.tube
post_of (Accept v) l = steps.p2b v.row v.ballot v.node v.tube
post_of Other l = steps.other

-- the call that a step makes, with the pair array beside it
abbrev pub call_of : Step → List ℕ → steps.Call
call_of (Scan a s) l = steps.scan a s
call_of (Send1a r b) l = steps.c1a r b
call_of (Send1b r b n) l = steps.c1b r n b
call_of (Send1c r b v) l = steps.c1c r b v
call_of (Send2av r b n v) l = steps.c2av r n b v
call_of (Send2b r b n v) l = steps.c2b r n b v
call_of (Hear n k) l = steps.hear n k
call_of (Foreign p) l = steps.foreign (post_of p l)
