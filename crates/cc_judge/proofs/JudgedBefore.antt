-- Where modules were judged last, with their texts, and which of them are stale.
use Rattle.std.proofs.Common.{◌≡◌, ℕ, ◌+◌, ◌<◌, Bool, true, false, ◌&&◌, List, [], ◌∷◌, ◌++◌, length, map, Option}
use Rattle.std.proofs.Common.{Some, None, ap, ◌∙◌, sym, subst, refl, inl, inr, get_or, arith}
use Rattle.std.proofs.lemmas.Bool.{cases_lt, ltb-true, ltb-false, or_parts, or_from, and_left, and_right}
use Rattle.std.proofs.lemmas.Cmp.{nat_list_eq_equiv}
use Rattle.std.proofs.lemmas.List.{get_or_append_left, get_or_push, length_push}
use Rattle.std.proofs.lemmas.Map.Keys.{IsDistinct-head, IsDistinct-tail}
use Rattle.std.proofs.lemmas.Option.{same_Some, slice_get_cases, slice_get_read, slice_get_past, slice_get-map}
use Rattle.std.specs.Cmp.Lexicographic.{bytes_decides}
use Rattle.std.specs.List.{AllByRecursion, IsDistinct, list_any, slice_get}
use Rattle.std.specs.Prelude.{zero, suc, nat_lt}
use Rattle.std.specs.Map.{keys_of}
use Rattle.std.specs.Option.{option_map}
use Rattle.std.specs.Str.{bytes_eq}
use Rattle.cc_verdicts.specs.ModuleVerdicts.{Finding}
use Rattle.cc_verdicts.specs.PresentTexts.{Texts}
use Rattle.cc_module.specs.declared.judgement.ModuleVerdict.{ModuleVerdict as DeclaredVerdict}
use Rattle.cc_module.specs.Findings.{finding_of}
use Rattle.cc_judge.specs.declared.grounds.Grounds.{Grounds}
use Rattle.cc_judge.specs.Dependencies.{IsJudgedBefore}
use Rattle.cc_judge.specs.Judgements.{Judgement, is_judgement_of}
use Rattle.cc_judge.specs.Kept.{judged_on, judgements_from}
use Rattle.cc_judge.specs.Places.{name_at, text_at, IsAbsentKey}
use Rattle.cc_judge.specs.Plans.{IsJudgedAt}
use Rattle.cc_judge.specs.SameFindings.{same_findings}
use Rattle.cc_judge.proofs.FindingTests.{same_findings_decides}

other_way : (a b : List ℕ) → bytes_eq a b ≡ false → bytes_eq b a ≡ false
other_way a b apart = nat_list_eq_equiv.symm b a ∙ apart

-- where no name is that of the module, none of the judgements passes a test for it
pub none_absent : (verdicts : List (List ℕ × DeclaredVerdict)) (grounds : List Grounds) (name : List ℕ)
    (test : List ℕ → List Finding → Bool) → IsAbsentKey (keys_of verdicts) name
    → list_any (λ one. bytes_eq one.name name && test one.text one.findings) (judgements_from verdicts grounds) ≡ false
none_absent [] grounds name test absent = refl
none_absent (entry ∷ entries) [] name test absent = refl
none_absent (entry ∷ entries) (first ∷ rest) name test absent =
    let parts = or_parts (bytes_eq name entry.0) (list_any (bytes_eq name) (keys_of entries)) absent in
    let apart : bytes_eq entry.0 name ≡ false = other_way name entry.0 parts.0 in
    rw apart (none_absent entries rest name test parts.1)

absent_from_apart : (keys : List (List ℕ)) (name : List ℕ) → AllByRecursion (λ y. bytes_eq name y ≡ false) keys
    → IsAbsentKey keys name
absent_from_apart [] name apart = refl
absent_from_apart (key ∷ keys) name apart = rw apart.0 (absent_from_apart keys name apart.1)

apart_at : (keys : List (List ℕ)) (first name : List ℕ) (at : ℕ) → AllByRecursion (λ y. bytes_eq first y ≡ false) keys
    → slice_get keys at ≡ Some name → bytes_eq first name ≡ false
apart_at [] first name at apart stands = cc
apart_at (key ∷ keys) first name zero apart stands =
    let P : List ℕ → Type 0 = λ y. bytes_eq first y ≡ false in subst P (same_Some key name stands) apart.0
apart_at (key ∷ keys) first name (suc at) apart stands = apart_at keys first name at apart.1 stands

-- where the grounds of the module do not pass the test, none does
pub none_other : (verdicts : List (List ℕ × DeclaredVerdict)) (others : List Grounds) (at : ℕ) (name : List ℕ)
    (test : List ℕ → List Finding → Bool) → IsDistinct bytes_eq (keys_of verdicts)
    → slice_get (keys_of verdicts) at ≡ Some name
    → ((one : Grounds) → slice_get others at ≡ Some one → test one.text (map finding_of one.findings) ≡ false)
    → list_any (λ one. bytes_eq one.name name && test one.text one.findings) (judgements_from verdicts others) ≡ false
none_other [] others at name test distinct named differ = refl
none_other (entry ∷ entries) [] at name test distinct named differ = refl
none_other (entry ∷ entries) (first ∷ rest) zero name test distinct named differ =
    let is_name : entry.0 ≡ name = same_Some entry.0 name named in
    let apart = IsDistinct-head bytes_eq entry.0 (keys_of entries) distinct in
    let P : List ℕ → Type 0 = λ x. AllByRecursion (λ y. bytes_eq x y ≡ false) (keys_of entries) in
    or_from (bytes_eq entry.0 name && test first.text (map finding_of first.findings))
    (list_any (λ one. bytes_eq one.name name && test one.text one.findings) (judgements_from entries rest))
    (and_right (bytes_eq entry.0 name) (test first.text (map finding_of first.findings)) (differ first refl))
    (none_absent entries rest name test (absent_from_apart (keys_of entries) name (subst P is_name apart)))
none_other (entry ∷ entries) (first ∷ rest) (suc at) name test distinct named differ =
    or_from (bytes_eq entry.0 name && test first.text (map finding_of first.findings))
    (list_any (λ one. bytes_eq one.name name && test one.text one.findings) (judgements_from entries rest))
    (and_left (bytes_eq entry.0 name) (test first.text (map finding_of first.findings))
    (apart_at (keys_of entries) entry.0 name at (IsDistinct-head bytes_eq entry.0 (keys_of entries) distinct) named))
    (none_other entries rest at name test (IsDistinct-tail bytes_eq entry.0 (keys_of entries) distinct) named
    (λ one stands. differ one stands))

-- the name of the judgement at a place
pub key_at_judgement : (verdicts : List (List ℕ × DeclaredVerdict)) (grounds : List Grounds) (at : ℕ) (one : Judgement)
    → slice_get (judgements_from verdicts grounds) at ≡ Some one → slice_get (keys_of verdicts) at ≡ Some one.name
key_at_judgement [] grounds at one stands = cc
key_at_judgement (entry ∷ entries) [] at one stands = cc
key_at_judgement (entry ∷ entries) (first ∷ rest) zero one stands =
    ap Some (ap (λ j. j.name) (same_Some (judged_on entry first) one stands))
key_at_judgement (entry ∷ entries) (first ∷ rest) (suc at) one stands = key_at_judgement entries rest at one stands

-- what was found for the judgement at a place
pub findings_at : (verdicts : List (List ℕ × DeclaredVerdict)) (grounds : List Grounds) (at : ℕ) (one : Judgement)
    (others : Grounds) → slice_get (judgements_from verdicts grounds) at ≡ Some one → slice_get grounds at ≡ Some others
    → one.findings ≡ map finding_of others.findings
findings_at [] grounds at one others stands on = cc
findings_at (entry ∷ entries) [] at one others stands on = cc
findings_at (entry ∷ entries) (first ∷ rest) zero one others stands on =
    sym (ap (λ j. j.findings) (same_Some (judged_on entry first) one stands))
    ∙ ap (λ g. map finding_of g.findings) (same_Some first others on)
findings_at (entry ∷ entries) (first ∷ rest) (suc at) one others stands on =
    findings_at entries rest at one others stands on

-- a judgement has its grounds
pub has_grounds : (verdicts : List (List ℕ × DeclaredVerdict)) (grounds : List Grounds) (at : ℕ) (one : Judgement)
    → slice_get (judgements_from verdicts grounds) at ≡ Some one → slice_get grounds at ≡ None → ⊥
has_grounds [] grounds at one stands none = cc
has_grounds (entry ∷ entries) [] at one stands none = cc
has_grounds (entry ∷ entries) (first ∷ rest) zero one stands none = cc
has_grounds (entry ∷ entries) (first ∷ rest) (suc at) one stands none = has_grounds entries rest at one stands none

pub judgement_at : (verdicts : List (List ℕ × DeclaredVerdict)) (grounds : List Grounds) (at : ℕ)
    (entry : List ℕ × DeclaredVerdict) (one : Grounds) → slice_get verdicts at ≡ Some entry
    → slice_get grounds at ≡ Some one
    → slice_get (judgements_from verdicts grounds) at ≡ Some (judged_on entry one)
judgement_at [] grounds at entry one stands on = cc
judgement_at (first ∷ rest) [] at entry one stands on = cc
judgement_at (first ∷ rest) (others ∷ more) zero entry one stands on =
    ap Some
    (ap (λ e. judged_on e others) (same_Some first entry stands) ∙ ap (judged_on entry) (same_Some others one on))
judgement_at (first ∷ rest) (others ∷ more) (suc at) entry one stands on = judgement_at rest more at entry one stands on

-- what a look-up of grounds finds
pub grounds_there : (grounds items : List Grounds) (at : ℕ) (one : Grounds) → items ≡ grounds
    → true ≡ nat_lt at (length items) → one ≡ get_or items at one → slice_get grounds at ≡ Some one
grounds_there grounds items at one same within is =
    let P : List Grounds → Type 0 = λ gs. slice_get gs at ≡ Some one in
    subst P same (slice_get_read items (length items) at one refl (ltb-true at (length items) (sym within)) is)

pub grounds_none : (grounds items : List Grounds) (at : ℕ) → items ≡ grounds → false ≡ nat_lt at (length items)
    → slice_get grounds at ≡ None
grounds_none grounds items at same past =
    let P : List Grounds → Type 0 = λ gs. slice_get gs at ≡ None in
    subst P same (slice_get_past items at (ltb-false at (length items) (sym past)))

-- where the module was judged on grounds with this text, that is the place
pub judged_there : (verdicts : List (List ℕ × DeclaredVerdict)) (grounds : List Grounds) (at : ℕ) (one : Grounds)
    (name text : List ℕ) → slice_get (keys_of verdicts) at ≡ Some name → slice_get grounds at ≡ Some one
    → bytes_eq one.text text ≡ true → IsJudgedBefore (judgements_from verdicts grounds) name text (Some at)
judged_there verdicts grounds at one name text named on same =
    elim (slice_get_cases verdicts at).1 [
      | inl (entry, below, found, is) ↦ (
        judged_on entry one,
        judgement_at verdicts grounds at entry one found on,
        same_Some entry.0 name
            (sym (slice_get-map (λ e. e.0) verdicts at ∙ ap (option_map (λ e. e.0)) found) ∙ named),
        (bytes_decides one.text text).0 same,
      )
      | inr (past, none) ↦
          absurd
          (let clash : None ≡ Some name =
          sym (slice_get-map (λ e. e.0) verdicts at ∙ ap (option_map (λ e. e.0)) none) ∙ named in cc)
    ]

-- where it was judged on others, or on none, it was not judged with this text
pub judged_nowhere : (verdicts : List (List ℕ × DeclaredVerdict)) (grounds : List Grounds) (at : ℕ) (name text : List ℕ)
    → IsDistinct bytes_eq (keys_of verdicts) → slice_get (keys_of verdicts) at ≡ Some name
    → ((one : Grounds) → slice_get grounds at ≡ Some one → bytes_eq one.text text ≡ false)
    → IsJudgedBefore (judgements_from verdicts grounds) name text None
judged_nowhere verdicts grounds at name text distinct named differ =
    none_other verdicts grounds at name (λ other findings. bytes_eq other text) distinct named differ

pub other_text : (grounds : List Grounds) (at : ℕ) (there : Grounds) (text : List ℕ) → slice_get grounds at ≡ Some there
    → bytes_eq there.text text ≡ false → (one : Grounds) → slice_get grounds at ≡ Some one
    → bytes_eq one.text text ≡ false
other_text grounds at there text stands differ one is =
    ap (λ g. bytes_eq g.text text) (same_Some one there (sym is ∙ stands)) ∙ differ

pub no_text : (grounds : List Grounds) (at : ℕ) (text : List ℕ) → slice_get grounds at ≡ None → (one : Grounds)
    → slice_get grounds at ≡ Some one → bytes_eq one.text text ≡ false
no_text grounds at text none one is = absurd (let clash : None ≡ Some one = sym none ∙ is in cc)

-- nor where its name is none of those
pub judged_never : (verdicts : List (List ℕ × DeclaredVerdict)) (grounds : List Grounds) (name text : List ℕ)
    → IsAbsentKey (keys_of verdicts) name → IsJudgedBefore (judgements_from verdicts grounds) name text None
judged_never verdicts grounds name text absent =
    none_absent verdicts grounds name (λ other findings. bytes_eq other text) absent

-- the text of the grounds at that place
pub its_text : (verdicts : List (List ℕ × DeclaredVerdict)) (grounds : List Grounds) (at : ℕ) (there : Grounds)
    (name text : List ℕ) → IsJudgedBefore (judgements_from verdicts grounds) name text (Some at)
    → slice_get grounds at ≡ Some there → there.text ≡ text
its_text [] grounds at there name text before on = cc
its_text (entry ∷ entries) [] at there name text before on = cc
its_text (entry ∷ entries) (first ∷ rest) zero there name text (one, stands, named, texted) on =
    sym (ap (λ g. g.text) (same_Some first there on))
    ∙ ap (λ j. j.text) (same_Some (judged_on entry first) one stands) ∙ texted
its_text (entry ∷ entries) (first ∷ rest) (suc at) there name text before on =
    its_text entries rest at there name text before on

-- where that was with these findings, its judgement stands there
pub kept_at : (verdicts : List (List ℕ × DeclaredVerdict)) (grounds : List Grounds) (at : ℕ) (one : Grounds)
    (name text : List ℕ) (findings : List Finding)
    → IsJudgedBefore (judgements_from verdicts grounds) name text (Some at) → slice_get grounds at ≡ Some one
    → same_findings (map finding_of one.findings) findings ≡ true
    → IsJudgedAt (judgements_from verdicts grounds) name text findings at
kept_at verdicts grounds at one name text findings (it, stands, named, texted) on same =
    record {
      one = it;
      stands = stands;
      same_name = named;
      same_text = texted;
      same_findings = findings_at verdicts grounds at it one stands on
          ∙ (same_findings_decides (map finding_of one.findings) findings).0 same;
    }

-- where it was with others, the module is stale
pub stale_other : (verdicts : List (List ℕ × DeclaredVerdict)) (grounds : List Grounds) (at : ℕ) (one : Grounds)
    (name text : List ℕ) (findings : List Finding) → IsDistinct bytes_eq (keys_of verdicts)
    → IsJudgedBefore (judgements_from verdicts grounds) name text (Some at) → slice_get grounds at ≡ Some one
    → same_findings (map finding_of one.findings) findings ≡ false
    → list_any (is_judgement_of name text findings) (judgements_from verdicts grounds) ≡ false
stale_other verdicts grounds at one name text findings distinct (it, stands, named, texted) on differ =
    none_other verdicts grounds at name (λ other others. bytes_eq other text && same_findings others findings) distinct
    (key_at_judgement verdicts grounds at it stands ∙ ap Some named)
    (λ other is.
    and_right (bytes_eq other.text text) (same_findings (map finding_of other.findings) findings)
    (ap (λ g. same_findings (map finding_of g.findings) findings) (same_Some other one (sym is ∙ on)) ∙ differ))

apart_more : (named texted found : Bool) → (named && texted) ≡ false → (named && (texted && found)) ≡ false
apart_more true true found apart = cc
apart_more true false found apart = refl
apart_more false texted found apart = refl

-- and so it is where it was not judged with this text
pub stale_never : (last : List Judgement) (name text : List ℕ) (findings : List Finding)
    → IsJudgedBefore last name text None → list_any (is_judgement_of name text findings) last ≡ false
stale_never [] name text findings never = refl
stale_never (first ∷ rest) name text findings never =
    let parts = or_parts (bytes_eq first.name name && bytes_eq first.text text)
    (list_any (λ one. bytes_eq one.name name && bytes_eq one.text text) rest) never in
    or_from (is_judgement_of name text findings first) (list_any (is_judgement_of name text findings) rest)
    (apart_more (bytes_eq first.name name) (bytes_eq first.text text) (same_findings first.findings findings) parts.0)
    (stale_never rest name text findings parts.1)

-- the same of so many present texts, as the program goes on
pub record AreJudgedUpTo (last : List Judgement) (texts : Texts) (n : ℕ) (places : List (Option ℕ)) : Type 0 where
  pub count : length places ≡ n
  pub each : (place : ℕ) → place < n
      → IsJudgedBefore last (name_at texts place) (text_at texts place) (get_or places place None)

pub judged_more : (last : List Judgement) (texts : Texts) (n : ℕ) (places new : List (Option ℕ)) (before : Option ℕ)
    → AreJudgedUpTo last texts n places → IsJudgedBefore last (name_at texts n) (text_at texts n) before
    → new ≡ places ++ before ∷ [] → AreJudgedUpTo last texts (n + 1) new
judged_more last texts n places new before so_far here more =
    record {
      count = ap length more ∙ length_push places before ∙ ap (λ k. k + 1) so_far.count;
      each = λ place within.
          let P : List (Option ℕ) → Type 0 = λ ps. IsJudgedBefore last (name_at texts place) (text_at texts place)
          (get_or ps place None) in
          subst P (sym more)
          (elim (cases_lt place n) [
            | inl below ↦
                let Q : Option ℕ → Type 0 = λ o. IsJudgedBefore last (name_at texts place) (text_at texts place) o in
                subst Q (sym (get_or_append_left places (before ∷ []) None place (omega (arith, so_far.count, below))))
                (so_far.each place below)
            | inr above ↦
                let is : n ≡ place = omega (arith, within) in
                let R : ℕ → Type 0 = λ k. IsJudgedBefore last (name_at texts k) (text_at texts k) before in
                let Q : Option ℕ → Type 0 = λ o. IsJudgedBefore last (name_at texts place) (text_at texts place) o in
                subst Q (sym (get_or_push places before None place (so_far.count ∙ is))) (subst R is here)
          ]);
    }
