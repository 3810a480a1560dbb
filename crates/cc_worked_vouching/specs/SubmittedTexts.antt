-- Worked modules with their certificates, beside a console.
use Rattle.std.specs.Prelude.{◌≡◌, ℕ, List, [], ◌∷◌, codes}
use Rattle.cc_base.specs.declared.device.DeviceDecl.{DeviceDecl}
use Rattle.cc_base.specs.declared.device.Kind.TheVariants as kinds
use Rattle.cc_job.specs.Jobs.{text}
use Rattle.cc_mnf.specs.ElaboratedModules.{device_names}
use Rattle.cc_vouching.specs.Submissions.{Claim, ClaimedModule}
use Rattle.cc_vouching.specs.VouchedModules.{Answer, HaveAnswers}
use Rattle.cc_vouching.specs.VouchingReplies.{replies_text}

-- the device beside which all stand
abbrev pub console : List DeviceDecl
console = record { name = codes "out"; kind = kinds.Console } ∷ []

-- another device of its name
abbrev pub counter : List DeviceDecl
counter = record { name = codes "out"; kind = kinds.Counter } ∷ []

-- a claim of these lines, and a module with its claims
abbrev pub claim : List ℕ → List (List ℕ) → Claim
claim definition lines = record { definition = definition; certificate = text lines }

abbrev pub presented : List ℕ → List (List ℕ) → List Claim → ClaimedModule
presented name lines claims = record { name = name; source = text lines; claims = claims }

-- to the modules in order, beside the devices, these lines are replied
abbrev pub RepliesBeside : List DeviceDecl → List ClaimedModule → List (List ℕ) → Type 0
RepliesBeside devices modules lines =
    (answers : List Answer) × HaveAnswers devices [] modules answers
    × (replies_text (device_names devices) modules answers ≡ text lines)

-- the same beside the console
abbrev pub Replies : List ClaimedModule → List (List ℕ) → Type 0
Replies = RepliesBeside console

-- a printing function, an identity, and a module with both
abbrev pub identity : List ℕ
identity = codes "def id = fun (x: Unit) => x"

abbrev pub printer : List ℕ
printer = codes "def line: ((x: Int) -> Unit)^{out} = fun (x: Int) => out.print(x)"

abbrev pub identity_certificate : List (List ℕ)
identity_certificate =
    codes "cert 1" ∷ codes "bind out: Console^{cap}" ∷ codes "term fun (_0: Unit) => _0" ∷
    codes "1 t-var [] : Unit^{_0}" ∷ codes "2 t-abs [1] : (_0: Unit) -> Unit^{_0}" ∷ []

-- what is proved of the printing function
abbrev pub printer_term : List (List ℕ)
printer_term =
    codes "term fun (_0: Int) => out.print(_0)" ∷ codes "1 t-var [] : Console^{out}" ∷
    codes "2 t-var [] : Int^{_0}" ∷ codes "3 t-op [1 2] : Unit" ∷
    codes "4 t-abs [3] : ((_0: Int) -> Unit)^{out}" ∷ []

abbrev pub printer_certificate : List (List ℕ)
printer_certificate =
    codes "cert 1" ∷ codes "bind out: Console^{cap}" ∷ codes "bind id: (_0: Unit) -> Unit^{_0}" ∷ printer_term

-- the module with both, vouched for
abbrev pub logger : ClaimedModule
logger =
    presented (codes "log") (identity ∷ printer ∷ [])
    (claim (codes "id") identity_certificate ∷ claim (codes "line") printer_certificate ∷ [])

-- what is replied to it
abbrev pub logger_reply : List (List ℕ)
logger_reply =
    codes "module log" ∷ codes "  id: (_0: Unit) -> Unit^{_0}" ∷ codes "  line: ((_0: Int) -> Unit)^{out}" ∷ []

-- a function that calls an import, where that has the type, and what is then proved of it at the type
abbrev pub caller : List (List ℕ)
caller = codes "import log.line" ∷ codes "def twice = fun (x: Int) => line(x)" ∷ []

abbrev pub caller_nodes : List (List ℕ)
caller_nodes =
    codes "term fun (_0: Int) => line(_0)" ∷ codes "1 t-var [] : ((_1: Int) -> Unit)^{line}" ∷
    codes "2 t-var [] : Int^{_0}" ∷ codes "3 set [] {} <: {}" ∷ codes "4 var [3] {_0} <: {}" ∷
    codes "5 set [4] {_0} <: {}" ∷ codes "6 refl [] Int <: Int" ∷ codes "7 capt [5 6] Int^{_0} <: Int" ∷
    codes "8 t-sub [2 7] : Int" ∷ codes "9 t-app [1 8] : Unit" ∷
    codes "10 t-abs [9] : ((_0: Int) -> Unit)^{line}" ∷ []

abbrev pub caller_certificate : List ℕ → List (List ℕ)
caller_certificate bind = codes "cert 1" ∷ codes "bind out: Console^{cap}" ∷ bind ∷ caller_nodes

abbrev pub calling : List (List ℕ) → ClaimedModule
calling certificate = presented (codes "app") caller (claim (codes "twice") certificate ∷ [])
