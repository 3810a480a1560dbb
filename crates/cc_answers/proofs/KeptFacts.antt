-- What is kept is that of its own names, and serves for the definition that has them.
use Rattle.std.proofs.Common.{◌≡◌, ℕ, ◌<◌, ◌&&◌, true, List, length, map, get_or, Result, Ok, Err, Global, sym, subst}
use Rattle.std.specs.Prelude.{IfSome, MatchResult}
use Rattle.std.specs.Result.{result_ok}
use Rattle.std.specs.List.{AllByRecursion}
use Rattle.std.specs.Str.{bytes_eq}
use Rattle.std.specs.declared.rc.Rc.{Rc}
use Rattle.std.specs.declared.vec.Vec.{Vec}
use Rattle.std.proofs.lemmas.Bool.{and_parts}
use Rattle.std.proofs.lemmas.Slice.Eq.{bytes_eq-Decides}
use Rattle.cc_base.specs.declared.device.DeviceDecl.{DeviceDecl}
use Rattle.cc_capture.proofs.Equality.{same_set-decides}
use Rattle.cc_capture.specs.Sets.{Set, same_set}
use Rattle.cc_session.specs.EntryAnswers.{IsAnswered, AnswersEntry}
use Rattle.cc_session.specs.LinkedModules.{AreLinked}
use Rattle.cc_session.specs.Modules.{module_of}
use Rattle.cc_session.specs.declared.entry.Entry.{Entry}
use Rattle.cc_session.specs.declared.modules.EntryModule.{EntryModule}
use Rattle.cc_verdicts.specs.PresentTexts.{Texts}
use Rattle.cc_answers.specs.Explaining.{FindsLinked}
use Rattle.cc_answers.specs.KeptEntries.{IsExplained, IsExplainedFor, IsLinked, IsLinkedFor}
use Rattle.cc_answers.specs.LinkedPrograms.{IsProgramOf}
use Rattle.cc_answers.specs.declared.explanation.Explained.{Explained}
use Rattle.cc_answers.specs.declared.linked.LinkedEntry.{LinkedEntry}
use Rattle.cc_answers.specs.declared.made.Made.{Made}
use Rattle.cc_answers.proofs.AllOf.{all_get}

module _ (devices : List DeviceDecl) (texts : Texts) (module_name name : List ℕ) (entry : Entry) (it : LinkedEntry) (is : it.entry ≡ entry)
    (answers : AnswersEntry devices texts module_name name (Ok entry)) (program : IsProgramOf it.program it.entry) where
  -- the entry with its program is that of the definition
  pub is_linked : IsLinkedFor devices texts module_name name it
  is_linked = record {
    answers = subst (λ (e : Entry). AnswersEntry devices texts module_name name (Ok e)) (sym is) answers;
    program = program;
  }

  -- and of the names that it has itself
  pub is_linked_own : IsLinked devices texts it
  is_linked_own = record {
    answers = λ verdicts are.
        let answered = is_linked.answers verdicts are in
        subst (λ def. IsAnswered devices texts verdicts it.entry.module def (Ok it.entry)) (sym answered.2.of_definition)
        (subst (λ m. IsAnswered devices texts verdicts m name (Ok it.entry)) (sym answered.2.of_module) answered);
    program = program;
  }

-- of what is shared all holds that holds of what it is shared from
pub shared : {T E : Type 0} (P : T → Type 0) (one : Rc T Global) (result : Result (Rc T Global) E)
    → MatchResult result (λ copy. copy.value ≡ one.value) (λ _. ⊥ → ⊥) → P one.value → IfSome (result_ok result) (λ it. P it.value)
shared P one (Ok copy) is p = subst P (sym is) p
shared P one (Err error) is p = tt

module _ (devices : List DeviceDecl) (texts : Texts) (module_name name : List ℕ) where
  -- an entry that has the names of the definition is that of the definition
  pub linked_so : (it : LinkedEntry) → (bytes_eq it.entry.module module_name && bytes_eq it.entry.def name) ≡ true → IsLinked devices texts it
      → IsLinkedFor devices texts module_name name it
  linked_so it same is =
      let parts = and_parts (bytes_eq it.entry.module module_name) (bytes_eq it.entry.def name) same in
      subst (λ n. IsLinkedFor devices texts module_name n it) ((bytes_eq-Decides it.entry.def name).0 parts.1)
      (subst (λ m. IsLinkedFor devices texts m it.entry.def it) ((bytes_eq-Decides it.entry.module module_name).0 parts.0) is)

  -- and so is an explanation that has the set besides
  pub explained_so : (set : Set) (it : Explained) → ((bytes_eq it.module module_name && bytes_eq it.def name) && same_set it.set set) ≡ true
      → IsExplained devices texts it → IsExplainedFor devices texts module_name name set.list it
  explained_so set it same is =
      let both = and_parts (bytes_eq it.module module_name && bytes_eq it.def name) (same_set it.set set) same in
      let parts = and_parts (bytes_eq it.module module_name) (bytes_eq it.def name) both.0 in
      subst (λ s. IsExplainedFor devices texts module_name name s.list it) ((same_set-decides it.set set).0 both.1)
      (subst (λ n. IsExplainedFor devices texts module_name n it.set.list it) ((bytes_eq-Decides it.def name).0 parts.1)
      (subst (λ m. IsExplainedFor devices texts m it.def it.set.list it) ((bytes_eq-Decides it.module module_name).0 parts.0) is))

-- what holds of all values that are kept holds of each
pub kept_at : {T : Type 0} (P : T → Type 0) (kept : List (Made (Rc T Global))) (at : ℕ) (one : Made (Rc T Global)) → at < length kept
    → one ≡ get_or kept at one → AllByRecursion (λ it. P it.value.value) kept → P one.value.value
kept_at {T} P kept at one within is all = all_get (λ (it : Made (Rc T Global)). P it.value.value) kept at one within is all

module _ (devices : List DeviceDecl) (texts : Texts) (module_name name : List ℕ) (set : Set) (modules : Vec EntryModule Global) (count : ℕ)
    (counts : count ≡ length devices) (linked : AreLinked devices texts module_name (map module_of modules.items)) (it : Explained)
    (is : it.modules ≡ modules) (finds : FindsLinked count (map module_of modules.items) module_name name set.list it.found.items) where
  -- what is found over the modules that are linked for the definition explains its signature
  pub is_explained : IsExplainedFor devices texts module_name name set.list it
  is_explained = record {
    linked = subst (λ (ms : Vec EntryModule Global). AreLinked devices texts module_name (map module_of ms.items)) (sym is) linked;
    finds = subst (λ n. FindsLinked n (map module_of it.modules.items) module_name name set.list it.found.items) counts
        (subst (λ (ms : Vec EntryModule Global). FindsLinked count (map module_of ms.items) module_name name set.list it.found.items) (sym is) finds);
  }

  -- and that of the names that it has itself
  pub is_explained_own : (it.module ≡ module_name) × (it.def ≡ name) × (it.set ≡ set) → IsExplained devices texts it
  is_explained_own (of_module, of_definition, of_set) =
      subst (λ (s : Set). IsExplainedFor devices texts it.module it.def s.list it) (sym of_set)
      (subst (λ n. IsExplainedFor devices texts it.module n set.list it) (sym of_definition)
      (subst (λ m. IsExplainedFor devices texts m name set.list it) (sym of_module) is_explained))
