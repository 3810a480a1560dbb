-- What a session answers is the reply to the command.
use Rattle.std.proofs.Common.{◌≡◌, ℕ, ◌<◌, ◌≤◌, Bool, true, false, cond, List, [], ◌∷◌, length, map, Option, Some, None, Result, Ok, Err, refl, sym, ap, ◌∙◌, subst, ⊎_elim, arith, if◌then◌else◌}
use Rattle.std.specs.Prelude.{nat_le, nat_lt}
use Rattle.std.specs.Map.{lookup, remove_entry}
use Rattle.std.specs.BTreeMap.{insert_entry}
use Rattle.std.specs.Option.{is_some}
use Rattle.std.specs.Str.{bytes_eq}
use Rattle.std.proofs.lemmas.Bool.{cases_lt}
use Rattle.std.proofs.lemmas.Bool.Decides.{nat_tests}
use Rattle.std.proofs.lemmas.Slice.Eq.{bytes_eq-Decides}
use Rattle.cc_base.specs.declared.code.Code.{Code}
use Rattle.cc_base.specs.declared.code.Code.TheVariants.{E30, E31, E32, E34}
use Rattle.cc_base.specs.Names.{compare_names}
use Rattle.cc_judge.specs.Judgements.{Judgement, verdicts_of, judgement_in, judgements}
use Rattle.cc_verdicts.specs.ModuleVerdicts.{CheckedDefinition, ModuleVerdict, IsAccepted, IsRefused}
use Rattle.cc_verdicts.specs.PresentTexts.{Texts, text_of, others_present, longest_text, most_modules}
use Rattle.cc_replies.specs.Replies.{put_reply, drop_reply, check_reply, definitions_reply, signature_reply, texts_after}
use Rattle.cc_replies.specs.Requests.{PutText}
use Rattle.cc_replies.specs.ReplyTexts.{Reply, PutDone, PutRefused, DropDone, DropRefused, Verdicts, Signatures, SignaturesRefused, is_refusal}
use Rattle.cc_session.specs.declared.refusals.PutRefused.{PutRefused as PutRefusal}
use Rattle.cc_session.specs.Signatures.{verdict_named, shown_definitions, definitions_or, signature_of}

module _ (texts : Texts) (name text : List ℕ) where
  not_long : (longest_text < length text → ⊥) → nat_lt longest_text (length text) ≡ false
  not_long h = elim (nat_lt longest_text (length text)) as (λ t. nat_lt longest_text (length text) ≡ t → t ≡ false) [
    | true ↦ λ e. absurd (h (grind (arith, nat_tests)))
    | false ↦ λ e. refl
  ] refl

  not_full : (most_modules ≤ others_present name texts → ⊥) → nat_le most_modules (others_present name texts) ≡ false
  not_full h = elim (nat_le most_modules (others_present name texts)) as (λ t. nat_le most_modules (others_present name texts) ≡ t → t ≡ false) [
    | true ↦ λ e. absurd (h (grind (arith, nat_tests)))
    | false ↦ λ e. refl
  ] refl

  pub put_too_long : longest_text < length text → put_reply texts name text ≡ PutRefused name E30
  put_too_long h =
      let long : nat_lt longest_text (length text) ≡ true = grind (arith, nat_tests) in
      ap (λ t. cond t (PutRefused name E30) (cond (nat_le most_modules (others_present name texts)) (PutRefused name E31) (PutDone name))) long

  pub put_too_many : length text ≤ longest_text → most_modules ≤ others_present name texts → put_reply texts name text ≡ PutRefused name E31
  put_too_many h g =
      let full : nat_le most_modules (others_present name texts) ≡ true = grind (arith, nat_tests) in
      ap (λ t. cond t (PutRefused name E30) (cond (nat_le most_modules (others_present name texts)) (PutRefused name E31) (PutDone name))) (not_long (λ more. clash more))
      ∙ ap (λ t. cond t (PutRefused name E31) (PutDone name)) full
    where
      clash : longest_text < length text → ⊥
      clash more = omega arith

  pub put_fits : (longest_text < length text → ⊥) → (most_modules ≤ others_present name texts → ⊥) → put_reply texts name text ≡ PutDone name
  put_fits h g =
      ap (λ t. cond t (PutRefused name E30) (cond (nat_le most_modules (others_present name texts)) (PutRefused name E31) (PutDone name))) (not_long h)
      ∙ ap (λ t. cond t (PutRefused name E31) (PutDone name)) (not_full g)

  pub put_done : (key : List ℕ) → key ≡ name → (longest_text < length text → ⊥) → (length text ≤ longest_text → most_modules ≤ others_present key texts → ⊥)
      → put_reply texts name text ≡ PutDone name
  put_done key same long full = put_fits long (λ more. full low (subst (λ n. most_modules ≤ others_present n texts) (sym same) more))
    where
      low : length text ≤ longest_text
      low = ⊎_elim (λ more. absurd (long more)) (λ less. less) (cases_lt longest_text (length text))

  -- a refused put changes nothing
  pub put_after : (reply : Reply) → put_reply texts name text ≡ reply
      → texts_after texts (PutText name text) ≡ (if is_refusal reply then texts else insert_entry compare_names texts name text)
  put_after reply e = ap (λ r. if is_refusal r then texts else insert_entry compare_names texts name text) e

-- a module that is absent is not removed
pub drop_absent : (texts : Texts) (name : List ℕ) → text_of texts name ≡ None → drop_reply texts name ≡ DropRefused name E32
drop_absent texts name none = ap (λ o. if is_some o then DropDone name else DropRefused name E32) none

pub drop_present : (texts : Texts) (name : List ℕ) → (text_of texts name ≡ None → ⊥) → drop_reply texts name ≡ DropDone name
drop_present texts name some =
    elim (text_of texts name) as (λ o. text_of texts name ≡ o → (if is_some o then DropDone name else DropRefused name E32) ≡ DropDone name) [
      | Some text ↦ λ e. refl
      | None ↦ λ e. absurd (some e)
    ] refl

-- what is absent is not there to be removed
pub remove_absent : (texts : Texts) (name : List ℕ) → text_of texts name ≡ None → remove_entry (bytes_eq name) texts ≡ texts
remove_absent [] name none = refl
remove_absent (one ∷ others) name none = at (bytes_eq name one.0) none (remove_absent others name)
  where
    at : (t : Bool) → cond t (Some one.1) (text_of others name) ≡ None → (text_of others name ≡ None → remove_entry (bytes_eq name) others ≡ others)
        → cond t others (one ∷ remove_entry (bytes_eq name) others) ≡ one ∷ others
    at true e more = cc
    at false e more = ap (λ it. one ∷ it) (more e)

shown_in : (texts : Texts) (verdicts : List ℕ → ModuleVerdict) (some : Texts)
    → verdicts_of (map (judgement_in texts verdicts) some) ≡ map (λ one. (one.0, verdicts one.0)) some
shown_in texts verdicts [] = refl
shown_in texts verdicts (one ∷ others) = ap (λ it. (one.0, verdicts one.0) ∷ it) (shown_in texts verdicts others)

-- the verdicts of the present modules are the reply to a check
pub check_is : (texts : Texts) (all : List ℕ → ModuleVerdict) (last : List Judgement) (verdicts : List (List ℕ × ModuleVerdict))
    → verdicts ≡ verdicts_of last → last ≡ judgements texts all → Verdicts verdicts ≡ check_reply texts all
check_is texts all last verdicts shown same = ap Verdicts (shown ∙ ap verdicts_of same ∙ shown_in texts all texts)

-- what is judged of a name is the verdict of the module, if it is present
abbrev verdict_or : Option (List ℕ) → ModuleVerdict → Option ModuleVerdict
verdict_or (Some text) verdict = Some verdict
verdict_or None verdict = None

named_in : (texts : Texts) (all : List ℕ → ModuleVerdict) (name : List ℕ) (some : Texts)
    → verdict_named name (map (judgement_in texts all) some) ≡ verdict_or (text_of some name) (all name)
named_in texts all name [] = refl
named_in texts all name (one ∷ others) = at (bytes_eq name one.0) refl (named_in texts all name others)
  where
    at : (t : Bool) → bytes_eq name one.0 ≡ t → verdict_named name (map (judgement_in texts all) others) ≡ verdict_or (text_of others name) (all name)
        → cond t (Some (all one.0)) (verdict_named name (map (judgement_in texts all) others)) ≡ verdict_or (cond t (Some one.1) (text_of others name)) (all name)
    at true e more = ap (λ n. Some (all n)) (sym ((bytes_eq-Decides name one.0).0 e))
    at false e more = more

-- the reply where the definitions of the module are these, or there are none
abbrev pub signatures_or : List ℕ → Result (List CheckedDefinition) Code → Reply
signatures_or name (Ok definitions) = Signatures name definitions
signatures_or name (Err code) = SignaturesRefused name code

definitions_are : (name : List ℕ) (verdict : ModuleVerdict) → signatures_or name (shown_definitions verdict) ≡ definitions_reply name verdict
definitions_are name (IsAccepted definitions) = refl
definitions_are name (IsRefused code at) = refl

chosen_are : (name : List ℕ) (there : Option (List ℕ)) (verdict : ModuleVerdict)
    → signatures_or name (definitions_or (verdict_or there verdict)) ≡ (if is_some there then definitions_reply name verdict else SignaturesRefused name E32)
chosen_are name (Some text) verdict = definitions_are name verdict
chosen_are name None verdict = refl

-- what is kept of the present modules gives the reply to a request for signatures
pub signature_is : (texts : Texts) (all : List ℕ → ModuleVerdict) (last : List Judgement) (name : List ℕ) (answer : Result (List CheckedDefinition) Code)
    → last ≡ judgements texts all → signature_of last name ≡ answer → signatures_or name answer ≡ signature_reply texts all name
signature_is texts all last name answer same is =
    ap (signatures_or name) (sym is ∙ ap (λ js. signature_of js name) same)
    ∙ ap (λ o. signatures_or name (definitions_or o)) (named_in texts all name texts)
    ∙ chosen_are name (text_of texts name) (all name)

pub not_refused : (done : Unit {0}) (refused : PutRefusal) → Ok done ≡ Err refused → ⊥
not_refused done refused e = cc
