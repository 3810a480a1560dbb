-- Texts of submissions, and texts that are none, each with its bad line.
use Rattle.std.specs.Prelude.{◌≡◌, ℕ, List, [], ◌∷◌, ◌++◌, codes}
use Rattle.cc_base.specs.declared.device.Kind.TheVariants.{Console, Counter}
use Rattle.cc_base.specs.declared.device.DeviceDecl.{DeviceDecl}
use Rattle.cc_job.specs.Jobs.{text}
use Rattle.cc_words.specs.Lines.{Line}
use Rattle.cc_vouching.specs.Submissions.{Submission, Item, Declares, Presents, Claims, items_of, IsSubmission, IsBadAt}

-- the lines are those of a submission with these items
abbrev pub HasItems : List Line → List Item → Type 0
HasItems lines items = (submission : Submission) × IsSubmission (text lines) submission × (items_of submission ≡ items)

-- they are those of none, and this is the bad line
abbrev pub IsRefusedAt : List Line → ℕ → Type 0
IsRefusedAt lines number = IsBadAt (text lines) number

abbrev pub out : DeviceDecl
out = record { name = codes "out"; kind = Console }

abbrev pub beat : DeviceDecl
beat = record { name = codes "beat"; kind = Counter }

abbrev pub source : List Line
source = codes "def a = 1" ∷ codes "def b = a" ∷ []

abbrev pub certificate : List Line
certificate = codes "any" ∷ []

-- Devices, then modules, each with its claims behind it, and what stands in a text or a certificate is any line.
abbrev pub SubmissionsAreSuch : Type 0
SubmissionsAreSuch =
    HasItems (codes "vouch 1" ∷ []) []
    × HasItems (codes "vouch 1" ∷ codes "device out console" ∷ codes "device beat counter" ∷ [])
    (Declares out ∷ Declares beat ∷ [])
    × HasItems (codes "vouch 1" ∷ codes "module m 0" ∷ []) (Presents (codes "m") [] ∷ [])
    × HasItems
    (codes "vouch 1" ∷ codes "device out console" ∷ codes "module m 2" ∷ source
    ++ codes "claim m.a 1" ∷ certificate ++ codes "claim m.b 1" ∷ certificate
    ++ codes "module n 1" ∷ codes "module m 2" ∷ [])
    (Declares out ∷ Presents (codes "m") (text source) ∷ Claims (codes "m") (codes "a") (text certificate)
    ∷ Claims (codes "m") (codes "b") (text certificate) ∷ Presents (codes "n") (text (codes "module m 2" ∷ [])) ∷ [])
    × HasItems (codes "vouch 1" ∷ codes "module m 0" ∷ codes "claim m.a 0" ∷ codes "claim m.a 0" ∷ [])
    (Presents (codes "m") [] ∷ Claims (codes "m") (codes "a") [] ∷ Claims (codes "m") (codes "a") [] ∷ [])

-- The first line is this one alone.
abbrev pub FirstLinesAreOne : Type 0
FirstLinesAreOne =
    IsRefusedAt [] 1 × IsRefusedAt ([] ∷ []) 1 × IsRefusedAt (codes "vouch 2" ∷ []) 1
    × IsRefusedAt (codes "vouch 1 " ∷ []) 1 × IsRefusedAt (codes "capc 1" ∷ []) 1
    × IsRefusedAt (codes "module m 0" ∷ []) 1

-- A line behind it that is that of no item is bad: no line is skipped.
abbrev pub OtherLinesAreBad : Type 0
OtherLinesAreBad =
    IsRefusedAt (codes "vouch 1" ∷ [] ∷ codes "module m 0" ∷ []) 2
    × IsRefusedAt (codes "vouch 1" ∷ codes "vouch 1" ∷ []) 2
    × IsRefusedAt (codes "vouch 1" ∷ codes "put m 0" ∷ []) 2
    × IsRefusedAt (codes "vouch 1" ∷ codes "check" ∷ []) 2
    × IsRefusedAt (codes "vouch 1" ∷ codes "module m" ∷ []) 2
    × IsRefusedAt (codes "vouch 1" ∷ codes "module m  0" ∷ []) 2
    × IsRefusedAt (codes "vouch 1" ∷ codes "module m 00" ∷ []) 2
    × IsRefusedAt (codes "vouch 1" ∷ codes "module m -1" ∷ []) 2
    × IsRefusedAt (codes "vouch 1" ∷ codes "module m 4194305" ∷ []) 2
    × IsRefusedAt (codes "vouch 1" ∷ codes "module val 0" ∷ []) 2
    × IsRefusedAt (codes "vouch 1" ∷ codes "device out" ∷ []) 2
    × IsRefusedAt (codes "vouch 1" ∷ codes "device val console" ∷ []) 2

-- A claim is one of the last module, and its definition has a name.
abbrev pub ClaimsAreOfTheLastModule : Type 0
ClaimsAreOfTheLastModule =
    IsRefusedAt (codes "vouch 1" ∷ codes "claim m.a 0" ∷ []) 2
    × IsRefusedAt (codes "vouch 1" ∷ codes "module m 0" ∷ codes "claim n.a 0" ∷ []) 3
    × IsRefusedAt (codes "vouch 1" ∷ codes "module m 0" ∷ codes "module n 0" ∷ codes "claim m.a 0" ∷ []) 4
    × IsRefusedAt (codes "vouch 1" ∷ codes "module m 0" ∷ codes "claim m 0" ∷ []) 3
    × IsRefusedAt (codes "vouch 1" ∷ codes "module m 0" ∷ codes "claim m.val 0" ∷ []) 3
    × IsRefusedAt (codes "vouch 1" ∷ codes "module m 0" ∷ codes "claim m.a" ∷ []) 3
    × IsRefusedAt (codes "vouch 1" ∷ codes "module m 0" ∷ codes "claim m.a 4194305" ∷ []) 3

-- Devices come before modules, and names are given once.
abbrev pub NamesAreGivenOnce : Type 0
NamesAreGivenOnce =
    IsRefusedAt (codes "vouch 1" ∷ codes "module m 0" ∷ codes "device out console" ∷ []) 3
    × IsRefusedAt (codes "vouch 1" ∷ codes "device out console" ∷ codes "device out counter" ∷ []) 3
    × IsRefusedAt (codes "vouch 1" ∷ codes "module m 0" ∷ codes "module m 1" ∷ codes "def a = 1" ∷ []) 3
    × IsRefusedAt (codes "vouch 1" ∷ codes "module m 0" ∷ codes "module n 0" ∷ codes "module m 0" ∷ []) 4

-- Where lines of a text or a certificate are missing, the bad line is the one behind the last.
abbrev pub MissingLinesAreBad : Type 0
MissingLinesAreBad =
    IsRefusedAt (codes "vouch 1" ∷ codes "module m 1" ∷ []) 3
    × IsRefusedAt (codes "vouch 1" ∷ codes "module m 3" ∷ source) 5
    × IsRefusedAt (codes "vouch 1" ∷ codes "module m 0" ∷ codes "claim m.a 2" ∷ certificate) 5

-- And so it is where the last line has no line feed.
abbrev pub MissingFeedsAreBad : Type 0
MissingFeedsAreBad =
    IsBadAt (codes "vouch 1") 2 × IsBadAt (text (codes "vouch 1" ∷ []) ++ codes "module m 0") 3
    × IsBadAt (text (codes "vouch 1" ∷ codes "module m 1" ∷ []) ++ codes "def a = 1") 4
