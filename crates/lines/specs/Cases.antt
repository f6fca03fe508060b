-- Lines of a sheet, good and bad, with what each says: one table.
use Rattle.std.specs.Prelude.{List, [], ◌∷◌, ◌++◌, ℕ}
use Rattle.rules.specs.Tests.{fit, many}
use Rattle.lines.specs.declared.Heading.TheVariants.{Nodes, Faulty, Rows, Capacity, Quorum, Weak}
use Rattle.step.specs.declared.Post.TheVariants.{OneB, Relay, Accept}
use Rattle.step.specs.declared.Step.TheVariants.{Scan, Send1a, Send1b, Send1c, Send2av, Send2b, Hear, Foreign}
use Rattle.lines.specs.declared.Line.{Line}
use Rattle.lines.specs.declared.Line.TheVariants.{Heading, Step, Bad}
use Rattle.lines.specs.declared.Parsed.{Parsed}
use Rattle.lines.specs.Grammar.{text, parsed}

-- a line's bytes, what it is, and the pairs beside it
pub record Case : Type 0 where
  pub bytes : List ℕ
  pub line : Line
  pub pairs : List ℕ

abbrev pub case : List ℕ → Line → Case
case s l = record { bytes = s; line = l; pairs = [] }

abbrev pub listed : List ℕ → ℕ → List ℕ → Case
listed s n ps = record { bytes = text "do=foreign1b row=1 ballot=2 node=0 mbal=255 mval=0 pairs=" ++ s; line = Step (Foreign (OneB (record { row = 1; ballot = 2; node = 0; mbal = 255; mval = 0; count = n }))); pairs = ps }

abbrev pub unlisted : List ℕ → Case
unlisted s = case (text "do=foreign1b row=1 ballot=2 node=0 mbal=255 mval=0 pairs=" ++ s) Bad

-- what the table says of a case, and what the definitions say
abbrev pub told : Case → Parsed
told c = record { line = c.line; pairs = fit 32 c.pairs }

abbrev pub read : Case → Parsed
read c = parsed c.bytes

abbrev pub cases : List Case
cases =
    -- the worked session
    case (text "nodes=1") (Heading (Nodes 1))
    ∷ case (text "faulty=0") (Heading (Faulty 0))
    ∷ case (text "rows=1") (Heading (Rows 1))
    ∷ case (text "capacity=16") (Heading (Capacity 16))
    ∷ case (text "quorum=1") (Heading (Quorum 1))
    ∷ case (text "weak=1") (Heading (Weak 1))
    ∷ case (text "do=scan station=3 serial=70") (Step (Scan 3 70))
    ∷ case (text "do=1a row=1 ballot=0") (Step (Send1a 1 0))
    ∷ case (text "do=1b row=1 ballot=0 node=0") (Step (Send1b 1 0 0))
    ∷ case (text "do=hear node=0 message=1") (Step (Hear 0 1))
    ∷ case (text "do=1c row=1 ballot=0 tube=2") (Step (Send1c 1 0 2))
    ∷ case (text "do=2av row=1 ballot=0 node=0 tube=2") (Step (Send2av 1 0 0 2))
    ∷ case (text "do=2b row=1 ballot=0 node=0 tube=2") (Step (Send2b 1 0 0 2))
    -- foreign lines
    ∷ case (text "do=foreign2av row=1 ballot=0 node=0 tube=2") (Step (Foreign (Relay (record { row = 1; ballot = 0; node = 0; tube = 2 }))))
    ∷ case (text "do=foreign2b row=1 ballot=0 node=0 tube=2") (Step (Foreign (Accept (record { row = 1; ballot = 0; node = 0; tube = 2 }))))
    ∷ listed [] 0 []
    ∷ listed (text "2:0") 1 (2 ∷ 0 ∷ [])
    ∷ listed (text "2:0,3:1") 2 (2 ∷ 0 ∷ 3 ∷ 1 ∷ [])
    ∷ listed (text "4294967295:4294967295") 1 (4294967295 ∷ 4294967295 ∷ [])
    -- sixteen pairs, and one more: counted, not kept
    ∷ listed (many 15 (text "1:0,") ++ text "5:6") 16 (many 15 (1 ∷ 0 ∷ []) ++ (5 ∷ 6 ∷ []))
    ∷ listed (many 16 (text "1:0,") ++ text "5:6") 17 (many 16 (1 ∷ 0 ∷ []))
    ∷ unlisted (many 16 (text "1:0,") ++ text "5:4294967296")
    ∷ unlisted (text "2:0,")
    ∷ unlisted (text "1:")
    ∷ unlisted (text ":0")
    ∷ unlisted (text ",1:0")
    ∷ unlisted (text "1:0:1")
    ∷ unlisted (text "1")
    ∷ unlisted (text "1:00")
    ∷ unlisted (text "1:0, 2:0")
    ∷ case (text "do=foreign1b row=1 ballot=2 node=0 mbal= mval=0 pairs=") Bad
    ∷ case (text "do=foreign1b row=1 ballot=2 node=0 mbal=255 mval=0") Bad
    -- numbers
    ∷ case (text "nodes=4294967295") (Heading (Nodes 4294967295))
    ∷ case (text "nodes=4294967296") Bad
    ∷ case (text "nodes=10000000000000000000000") Bad
    ∷ case (text "nodes=01") Bad
    ∷ case (text "nodes=00") Bad
    ∷ case (text "nodes=0") (Heading (Nodes 0))
    ∷ case (text "nodes=") Bad
    ∷ case (text "nodes=+1") Bad
    ∷ case (text "nodes=1a") Bad
    -- the parting and the order of fields
    ∷ case (text "do=1a row=1  ballot=0") Bad
    ∷ case (text "do=1a row=1 ballot=0 ") Bad
    ∷ case (text " do=1a row=1 ballot=0") Bad
    ∷ case (text "do=1a ballot=0 row=1") Bad
    ∷ case (text "do=1a row=1") Bad
    ∷ case (text "do=1a row=1 ballot=0 node=0") Bad
    ∷ case (text "do=2av row=1 ballot=0 tube=2 node=0") Bad
    ∷ case (text "do=ask row=1") Bad
    ∷ case (text "Nodes=1") Bad
    ∷ case (text "nodes=#") Bad
    ∷ case (text "weak=1" ++ (13 ∷ [])) Bad
    ∷ case (text "weak=1" ++ (9 ∷ [])) Bad
    ∷ case (text "weak=1" ++ (0 ∷ [])) Bad
    ∷ case [] Bad
    -- 200 bytes and 201
    ∷ listed (many 35 (text "1:0,") ++ text "5:6") 36 (many 16 (1 ∷ 0 ∷ []))
    ∷ unlisted (many 35 (text "1:0,") ++ text "10:1")
    ∷ []
