-- Worked replies.
use Rattle.std.specs.Prelude.{◌≡◌, ℕ, true, false, List, [], ◌∷◌, ◌++◌, codes, replicate, Some, None, refl}
use Rattle.std.specs.Fmt.{digits}
use Rattle.cc_base.specs.declared.code.Code.TheVariants.{E15, E30, E31, E32, E34}
use Rattle.cc_base.specs.declared.literal.Base.TheVariants as bases
use Rattle.cc_base.specs.declared.place.Place.{Place}
use Rattle.cc_capture.specs.declared.var.Elem.TheVariants.{Var as Variable}
use Rattle.cc_capture.specs.declared.var.Var.TheVariants.{Free}
use Rattle.cc_capture.specs.Rising.{placed}
use Rattle.cc_capture.specs.Sets.{from_list, insert, empty}
use Rattle.cc_core.specs.Shapes.{BaseShape, FunctionShape, CapturingType, capturing}
use Rattle.cc_core.specs.Terms.{Absent, LiteralTerm}
use Rattle.cc_base.specs.Literals.{UnitLiteral}
use Rattle.cc_verdicts.specs.ModuleVerdicts.{CheckedDefinition, IsAccepted, IsRefused}
use Rattle.cc_policy.specs.declared.policy.Decision.{Decision}
use Rattle.cc_policy.specs.declared.policy.Rule.{Rule}
use Rattle.cc_replies.specs.ReplyTexts.{Reply, PutDone, PutRefused, DropDone, DropRefused, PolicySet, Verified, Verdicts, Signatures}
use Rattle.cc_replies.specs.ReplyTexts.{SignaturesRefused, Audited, line, reply_text, is_refusal}
use Rattle.cc_certificate_judging.specs.Answers.{ProvesType, HasBadLine, HasBadNode}
use Rattle.cc_replies.specs.Replies.{put_reply, texts_after}
use Rattle.cc_replies.specs.Requests.{CheckModules, PutText, DropModule, SetPolicy, VerifyText, Ask, no_module}
use Rattle.cc_replies.specs.Outputs.{IsOutput, after_all}
use lib.Utf8.{encode}

abbrev a : List ℕ
a = codes "a"

abbrev b : List ℕ
b = codes "b"

-- a head with a code
pub refused_put : reply_text [] (PutRefused a E30) ≡ line (codes "put a refused E30")
unfolding encode
refused_put = refl

abbrev third_line : Place
third_line = record { line = 3; col = 7 }

-- a line for each module, and one that is refused makes the reply one of a refusal
pub two_verdicts :
    reply_text [] (Verdicts ((a, IsAccepted []) ∷ (b, IsRefused E15 third_line) ∷ []))
    ≡ line (codes "check") ++ line (codes "  a ok") ++ line (codes "  b E15 3:7")
unfolding encode digits
two_verdicts = refl

pub one_refused : is_refusal (Verdicts ((a, IsAccepted []) ∷ (b, IsRefused E15 third_line) ∷ [])) ≡ true
one_refused = refl

pub none_refused : is_refusal (Verdicts ((a, IsAccepted []) ∷ (b, IsAccepted []) ∷ [])) ≡ false
none_refused = refl

-- functions that the first device lets run
abbrev runs : CapturingType
runs = capturing (FunctionShape (BaseShape bases.Unit) (from_list []) (BaseShape bases.Unit) (from_list [])) (from_list (Variable (Free 0) ∷ []))

abbrev main : CheckedDefinition
main = record {
  name = codes "main";
  recursive = false;
  accepted = record { note = Absent; filled = LiteralTerm UnitLiteral; type = runs; signature = runs };
}

-- types carry the names of the devices
pub one_signature :
    reply_text (codes "out" ∷ []) (Signatures a (main ∷ []))
    ≡ line (codes "sig a") ++ line (codes "  main: ((_0: Unit) -> Unit)^{out}")
unfolding encode digits from_list insert empty placed
one_signature = refl

pub refused_signature : reply_text [] (SignaturesRefused a E34) ≡ line (codes "sig a refused E34")
unfolding encode
refused_signature = refl

-- where 256 modules of other names are present there is no room for one more; one that is present gets another text
pub no_room : put_reply (replicate 256 (a, [])) b [] ≡ PutRefused b E31
no_room = refl

pub last_room : put_reply (replicate 255 (a, [])) b [] ≡ PutDone b
last_room = refl

pub other_text : put_reply (replicate 256 (a, [])) a [] ≡ PutDone a
other_text = refl

-- texts stand in order of name, and a module has the last one that was put
pub in_order :
    texts_after (texts_after (texts_after [] (PutText b [])) (PutText a [])) (PutText b (32 ∷ [])) ≡ (a, []) ∷ (b, 32 ∷ []) ∷ []
unfolding encode
in_order = refl

-- what is removed is not there any more
pub removed_twice :
    IsOutput [] no_module (PutText a [] ∷ DropModule a ∷ DropModule a ∷ [])
    (line (codes "put a") ++ line (codes "drop a") ++ line (codes "drop a refused E32")) true
unfolding encode
removed_twice = (
  PutDone a,
  line (codes "drop a") ++ line (codes "drop a refused E32"),
  true,
  refl,
  (DropDone a, line (codes "drop a refused E32"), true, refl, (DropRefused a E32, [], false, refl, (refl, refl), refl, refl), refl, refl),
  refl,
  refl,
)

-- a rule that denies everything, and one that allows it
abbrev nothing : Rule
nothing = record { allow = false; «module» = None; device = None }

abbrev everything : Rule
everything = record { allow = true; «module» = None; device = None }

-- how many rules a policy has
pub policies_are_set :
    IsOutput [] no_module (SetPolicy (nothing ∷ everything ∷ []) ∷ SetPolicy [] ∷ [])
    (line (codes "policy 2") ++ line (codes "policy 0")) false
unfolding encode digits
policies_are_set = (
  PolicySet 2,
  line (codes "policy 0"),
  false,
  refl,
  (PolicySet 0, [], false, refl, (refl, refl), refl, refl),
  refl,
  refl,
)

-- The rules that were set last are in force, whatever came behind them. At first there are none.
pub last_rules_are_in_force :
    (after_all no_module
    (SetPolicy (nothing ∷ []) ∷ SetPolicy (everything ∷ []) ∷ PutText a [] ∷ DropModule a ∷ VerifyText [] ∷ Ask CheckModules ∷ [])).rules
    ≡ everything ∷ []
unfolding encode
last_rules_are_in_force = refl

pub no_rules_at_first : (after_all no_module (PutText a [] ∷ Ask CheckModules ∷ [])).rules ≡ []
unfolding encode
no_rules_at_first = refl

-- a line for each device, with what is decided and by which rule; that a device is denied is no refusal
abbrev audit : Reply
audit =
    Audited a b
    ((0, record { allow = true; rule = Some 1 }) ∷ (1, record { allow = false; rule = Some 2 })
    ∷ (2, record { allow = false; rule = None }) ∷ [])

pub decisions_are_told :
    reply_text (codes "out" ∷ codes "hits" ∷ codes "data" ∷ []) audit
    ≡ line (codes "audit a.b") ++ line (codes "  out allow 1") ++ line (codes "  hits deny 2")
    ++ line (codes "  data deny none")
unfolding encode digits
decisions_are_told = refl

pub denials_are_no_refusals : is_refusal audit ≡ false
denials_are_no_refusals = refl

-- what is found of a certificate: its type with the names of its binds, a bad line, or a bad node
pub valid_certificate :
    reply_text [] (Verified (ProvesType (codes "out" ∷ []) runs))
    ≡ line (codes "verify") ++ line (codes "  valid ((_0: Unit) -> Unit)^{out}")
unfolding encode digits from_list insert empty placed
valid_certificate = refl

pub bad_line : reply_text [] (Verified (HasBadLine 4)) ≡ line (codes "verify") ++ line (codes "  bad line 4")
unfolding digits
bad_line = refl

pub bad_node : reply_text [] (Verified (HasBadNode 12)) ≡ line (codes "verify") ++ line (codes "  bad node 12")
unfolding digits
bad_node = refl

-- the last two are refusals
pub valid_is_no_refusal : is_refusal (Verified (ProvesType [] runs)) ≡ false
valid_is_no_refusal = refl

pub bad_line_is_one : is_refusal (Verified (HasBadLine 4)) ≡ true
bad_line_is_one = refl

pub bad_node_is_one : is_refusal (Verified (HasBadNode 12)) ≡ true
bad_node_is_one = refl
