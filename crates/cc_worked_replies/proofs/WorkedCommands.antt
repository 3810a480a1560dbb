-- Replies to commands that put, remove and check modules and set rules, by computation.
use Rattle.std.proofs.Common.{◌≡◌, ℕ, ◌<◌, ◌≤◌, Bool, true, false, List, [], ◌∷◌, length, codes, refl, ap, arith, if◌then◌else◌}
use Rattle.std.specs.BTreeMap.{insert_entry}
use Rattle.std.specs.Fmt.{digits}
use Rattle.std.specs.List.{flat_map}
use Rattle.std.specs.Prelude.{nat_le, nat_lt}
use Rattle.std.specs.Str.{bytes_eq}
use Rattle.std.proofs.lemmas.Bool.Decides.{nat_tests}
use lib.Utf8.{encode}
use Rattle.cc_base.specs.declared.code.Code.TheVariants.{E30, E31}
use Rattle.cc_base.specs.Names.{compare_names}
use Rattle.cc_graph.specs.Graph.{ImportMap}
use Rattle.cc_replies.specs.Replies.{check_reply}
use Rattle.cc_replies.specs.ReplyTexts.{PutDone, PutRefused, DropDone, PolicySet, is_refusal, line}
use Rattle.cc_verdicts.specs.ModuleVerdicts.{Finding, ModuleVerdict}
use Rattle.cc_verdicts.specs.PresentTexts.{Texts, others_present, finding_in}
use Rattle.cc_worked_replies.specs.CommandExamples as example
use Rattle.cc_worked_replies.specs.RunExamples.{three_modules}
use Rattle.cc_worked_replies.specs.TextReplies.{console_and_counter, m}
use Rattle.cc_worked_replies.proofs.ComputedAnswers.{check_replies}
use Rattle.cc_worked_replies.proofs.ComputedReplies.{verdicts_by, AreJudged, are_judged, reply_computing}
use Rattle.cc_worked_replies.proofs.WorkedRuns.{alone, verdicts_of, three_imports, three_names, three_verdicts, three_judged}

pub lengths_are_told_first : example.LengthsAreToldFirst
unfolding encode
lengths_are_told_first = (PutRefused m E30, [], false, refl, (refl, refl), refl, refl)

number_judged : AreJudged [] example.number (verdicts_of [] example.number) alone (m ∷ [])
unfolding reply_computing
number_judged =
    are_judged [] 12 example.number (verdicts_of [] example.number) alone (m ∷ []) tt (tt, tt) refl (refl, tt)
    (record { steps = refl; whole = refl })

pub refused_puts_are_not_seen : example.RefusedPutsAreNotSeen
unfolding reply_computing
refused_puts_are_not_seen = (
  PutRefused m E30,
  flat_map line (codes "check" ∷ codes "  m ok" ∷ []),
  false,
  refl,
  (
    check_reply example.number (verdicts_of [] example.number),
    [],
    false,
    (verdicts_of [] example.number, number_judged.are, refl),
    (refl, refl),
    refl,
    refl,
  ),
  refl,
  refl,
)

longer : (n limit : ℕ) → limit < n → nat_lt limit n ≡ true
longer n limit h = grind (arith, nat_tests)

as_many : (n limit : ℕ) → limit ≤ n → nat_le limit n ≡ true
as_many n limit h = grind (arith, nat_tests)

-- what is present behind a put, by the two tests
abbrev behind : Texts → List ℕ → List ℕ → Bool → Bool → Texts
behind texts name text long full =
    if is_refusal (if long then PutRefused name E30 else (if full then PutRefused name E31 else PutDone name))
    then texts else insert_entry compare_names texts name text

long_stays : (texts : Texts) (name text : List ℕ) (full long : Bool) → long ≡ true → behind texts name text long full ≡ texts
long_stays texts name text full long is = ap (λ t. behind texts name text t full) is

full_stays : (texts : Texts) (name text : List ℕ) (long full : Bool) → full ≡ true → behind texts name text long full ≡ texts
full_stays texts name text true full is = refl
full_stays texts name text false full is = ap (λ t. behind texts name text false t) is

pub refused_puts_change_nothing : example.RefusedPutsChangeNothing
refused_puts_change_nothing = (
  λ state name text more. λ i. record {
    texts = long_stays state.texts name text (nat_le 256 (others_present name state.texts)) (nat_lt 65536 (length text))
        (longer (length text) 65536 more) i;
    rules = state.rules;
  },
  λ state name text more. λ i. record {
    texts = full_stays state.texts name text (nat_lt 65536 (length text)) (nat_le 256 (others_present name state.texts))
        (as_many (others_present name state.texts) 256 more) i;
    rules = state.rules;
  },
)

pub commands_are_told : example.CommandsAreTold
unfolding encode digits
commands_are_told = record {
  dropped = (DropDone m, [], false, refl, (refl, refl), refl, refl);
  put_again = (PutDone m, [], false, refl, (refl, refl), refl, refl);
  rules = (PolicySet 3, [], false, refl, (refl, refl), refl, refl);
  no_rules = (PolicySet 0, [], false, refl, (refl, refl), refl, refl);
}

-- the import graph of the five modules, of which the first is no module
abbrev five_imports : ImportMap
five_imports = (codes "b", []) ∷ (codes "c", []) ∷ (codes "d", codes "b" ∷ []) ∷ (codes "e", codes "b" ∷ []) ∷ []

abbrev five_names : List (List ℕ)
five_names = codes "b" ∷ codes "c" ∷ codes "d" ∷ codes "e" ∷ []

abbrev five_findings : List ℕ → List Finding
five_findings name =
    if bytes_eq name (codes "d") then finding_in (verdicts_of [] example.five_modules (codes "b")) (codes "g") ∷ []
    else if bytes_eq name (codes "e") then finding_in (verdicts_of [] example.five_modules (codes "b")) (codes "h") ∷ []
    else []

abbrev five_verdicts : List ℕ → ModuleVerdict
five_verdicts = verdicts_by [] example.five_modules five_findings

five_judged : AreJudged [] example.five_modules five_verdicts five_imports five_names
unfolding reply_computing
five_judged =
    are_judged [] 12 example.five_modules five_verdicts five_imports five_names tt
    ((refl, (refl, (refl, (refl, tt)))), ((refl, (refl, (refl, tt))), ((refl, (refl, tt)), ((refl, tt), (tt, tt)))))
    refl (refl, (refl, (refl, (refl, (refl, tt))))) (record { steps = refl; whole = refl })

pub five_modules_are_checked : example.FiveModulesAreChecked
unfolding reply_computing
five_modules_are_checked =
    check_replies [] example.five_modules five_verdicts five_imports five_names five_judged
    (codes "check" ∷ codes "  a E03 1:11" ∷ codes "  b ok" ∷ codes "  c E10 1:9" ∷ codes "  d ok" ∷ codes "  e E06 1:8" ∷ []) true refl refl

pub three_modules_are_checked : example.ThreeModulesAreChecked
unfolding reply_computing
three_modules_are_checked =
    check_replies console_and_counter three_modules three_verdicts three_imports three_names three_judged
    (codes "check" ∷ codes "  app ok" ∷ codes "  counter ok" ∷ codes "  logger ok" ∷ []) false refl refl
