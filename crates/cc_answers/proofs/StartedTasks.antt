-- Definitions that are started one after the other.
use Rattle.std.proofs.Common.{◌≡◌, ◌<◌, ◌+◌, ℕ, suc, List, [], ◌∷◌, ◌++◌, map, take, drop, length, get_or, Option, Some, None, Result, Ok, Err, refl, sym, ap, ◌∙◌, subst}
use Rattle.std.proofs.lemmas.List.{take_more, take-append-drop, map_push}
use Rattle.std.specs.List.{AllByRecursion}
use Rattle.cc_base.specs.declared.code.Code.{Code}
use Rattle.cc_base.specs.declared.device.DeviceDecl.{DeviceDecl}
use Rattle.cc_base.specs.declared.literal.Base.{Base}
use Rattle.cc_device.specs.Declarations.{declared_bases}
use Rattle.cc_session.specs.declared.entry.Entry.{Entry as DeclaredEntry}
use Rattle.cc_session.specs.Entries.{entry_of}
use Rattle.cc_entry_laws.specs.PresentEntries.{CheckedEntry, started_in}
use Rattle.cc_verdicts.specs.ModuleVerdicts.{CheckedDefinition, ModuleVerdict}
use Rattle.cc_verdicts.specs.PresentTexts.{Texts}
use Rattle.cc_answers.proofs.Answering.{drop_next}
use Rattle.cc_replies.specs.RunReplies.{Unstarted, unstarted_or, first_unstarted, HasEntry, HaveEntries}

module _ (devices : List DeviceDecl) (texts : Texts) (verdicts : List ℕ → ModuleVerdict) where
  -- those so far have their entries
  pub record AreStartedSoFar (tasks : List (List ℕ × List ℕ)) (entries : List CheckedEntry) : Type 0 where
    pub none : first_unstarted texts verdicts tasks ≡ None
    pub have : HaveEntries devices texts verdicts tasks entries

  pub none_so_far : AreStartedSoFar [] []
  none_so_far = record { none = refl; have = refl }

  -- where all in front are started, the first that is not stands behind them
  pub unstarted_behind : (front rest : List (List ℕ × List ℕ)) → first_unstarted texts verdicts front ≡ None
      → first_unstarted texts verdicts (front ++ rest) ≡ first_unstarted texts verdicts rest
  unstarted_behind [] rest none = refl
  unstarted_behind (first ∷ others) rest none = at (started_in texts verdicts first.0 first.1) none (unstarted_behind others rest)
    where
      at : (r : Result CheckedDefinition Code) → unstarted_or first.0 first.1 r (first_unstarted texts verdicts others) ≡ None
          → (first_unstarted texts verdicts others ≡ None
          → first_unstarted texts verdicts (others ++ rest) ≡ first_unstarted texts verdicts rest)
          → unstarted_or first.0 first.1 r (first_unstarted texts verdicts (others ++ rest)) ≡ first_unstarted texts verdicts rest
      at (Ok started) e later = later e
      at (Err code) e later = cc

  have_more : (front : List (List ℕ × List ℕ)) (entries : List CheckedEntry) (task : List ℕ × List ℕ) (entry : CheckedEntry)
      → HaveEntries devices texts verdicts front entries → HasEntry devices texts verdicts task entry
      → HaveEntries devices texts verdicts (front ++ task ∷ []) (entries ++ entry ∷ [])
  have_more [] entries task entry have has = (entry, [], has, refl, ap (λ es. es ++ entry ∷ []) have)
  have_more (first ∷ others) entries task entry have has =
      let (here, later, is, rest, same) = have in
      (here, later ++ entry ∷ [], is, have_more others later task entry rest has, ap (λ es. es ++ entry ∷ []) same)

  started_one : (task : List ℕ × List ℕ) (entry : CheckedEntry) → HasEntry devices texts verdicts task entry
      → first_unstarted texts verdicts (task ∷ []) ≡ None
  started_one task entry has = ap (λ r. unstarted_or task.0 task.1 r None) has.1

  -- one more is started
  pub started_more : (front : List (List ℕ × List ℕ)) (entries : List CheckedEntry) (task : List ℕ × List ℕ) (entry : CheckedEntry)
      → AreStartedSoFar front entries → HasEntry devices texts verdicts task entry
      → AreStartedSoFar (front ++ task ∷ []) (entries ++ entry ∷ [])
  started_more front entries task entry so_far has = record {
    none = unstarted_behind front (task ∷ []) so_far.none ∙ started_one task entry has;
    have = have_more front entries task entry so_far.have has;
  }

  -- the next one is not
  pub stopped_at : (front rest : List (List ℕ × List ℕ)) (task : List ℕ × List ℕ) (entries : List CheckedEntry) (code : Code)
      → AreStartedSoFar front entries → started_in texts verdicts task.0 task.1 ≡ Err code
      → first_unstarted texts verdicts (front ++ task ∷ rest) ≡ Some (record { module_name = task.0; name = task.1; code = code })
  stopped_at front rest task entries code so_far is =
      unstarted_behind front (task ∷ rest) so_far.none ∙ ap (λ r. unstarted_or task.0 task.1 r (first_unstarted texts verdicts rest)) is

  -- the next one of all is started
  pub started_next : {A : Type 0} (tasks : List (List ℕ × List ℕ)) (at : ℕ) (task : List ℕ × List ℕ) (entries new : List A) (entry : A)
      (f : A → CheckedEntry)
      → at < length tasks → task ≡ get_or tasks at task → AreStartedSoFar (take at tasks) (map f entries)
      → HasEntry devices texts verdicts task (f entry) → new ≡ entries ++ entry ∷ []
      → AreStartedSoFar (take (at + 1) tasks) (map f new)
  started_next tasks at task entries new entry f within is so_far has pushed =
      let front : take (at + 1) tasks ≡ take at tasks ++ task ∷ [] = take_more tasks at task within ∙ ap (λ t. take at tasks ++ t ∷ []) (sym is) in
      let made : map f new ≡ map f entries ++ f entry ∷ [] = ap (map f) pushed ∙ map_push f entries entry in
      subst (λ ts. AreStartedSoFar ts (map f new)) (sym front)
      (subst (AreStartedSoFar (take at tasks ++ task ∷ [])) (sym made) (started_more (take at tasks) (map f entries) task (f entry) so_far has))

  -- the next one of all is the first that is not
  pub stopped_next : (tasks : List (List ℕ × List ℕ)) (at : ℕ) (task : List ℕ × List ℕ) (entries : List CheckedEntry) (code : Code)
      → at < length tasks → task ≡ get_or tasks at task → AreStartedSoFar (take at tasks) entries
      → started_in texts verdicts task.0 task.1 ≡ Err code
      → first_unstarted texts verdicts tasks ≡ Some (record { module_name = task.0; name = task.1; code = code })
  stopped_next tasks at task entries code within is so_far refused =
      let whole : take at tasks ++ task ∷ drop (at + 1) tasks ≡ tasks =
      ap (λ ts. take at tasks ++ ts) (sym (drop_next tasks at task within is)) ∙ take-append-drop at tasks in
      subst (λ ts. first_unstarted texts verdicts ts ≡ Some (record { module_name = task.0; name = task.1; code = code })) whole
      (stopped_at (take at tasks) (drop (at + 1) tasks) task entries code so_far refused)

  -- the entries have the shapes of the devices
  shapes_of_all : (tasks : List (List ℕ × List ℕ)) (entries : List CheckedEntry) → HaveEntries devices texts verdicts tasks entries
      → AllByRecursion (λ (entry : CheckedEntry). entry.devices ≡ declared_bases devices) entries
  shapes_of_all [] entries have = subst (AllByRecursion (λ (entry : CheckedEntry). entry.devices ≡ declared_bases devices)) (sym have) tt
  shapes_of_all (first ∷ others) entries have =
      let (here, later, is, rest, same) = have in
      subst (AllByRecursion (λ (entry : CheckedEntry). entry.devices ≡ declared_bases devices)) (sym same)
      (is.2.shapes, shapes_of_all others later rest)

  shapes_before : {A : Type 0} (bases : List Base) → declared_bases devices ≡ bases → (entries : List A) (f : A → DeclaredEntry)
      → AllByRecursion (λ (entry : CheckedEntry). entry.devices ≡ declared_bases devices) (map (λ it. entry_of (f it)) entries)
      → AllByRecursion (λ it. (f it).devices.items ≡ bases) entries
  shapes_before bases same [] f all = tt
  shapes_before bases same (entry ∷ entries) f all = (all.0 ∙ same, shapes_before bases same entries f all.1)

  pub shapes_of_started : {A : Type 0} (bases : List Base) (tasks : List (List ℕ × List ℕ)) (entries : List A) (f : A → DeclaredEntry)
      → declared_bases devices ≡ bases → HaveEntries devices texts verdicts tasks (map (λ it. entry_of (f it)) entries)
      → AllByRecursion (λ it. (f it).devices.items ≡ bases) entries
  shapes_of_started bases tasks entries f same have =
      shapes_before bases same entries f (shapes_of_all tasks (map (λ it. entry_of (f it)) entries) have)
