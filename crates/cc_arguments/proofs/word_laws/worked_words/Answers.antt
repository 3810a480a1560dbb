use Rattle.std.proofs.Common.{[], ◌∷◌, codes, refl}
use Rattle.cc_words.specs.Words.{number_of}
use Rattle.cc_arguments.specs.declared.words.Asked.TheVariants.{Job, Workload, Nothing}
use Rattle.cc_arguments.proofs.WordLaws.{asks_for}
use Rattle.cc_arguments.proofs.word_laws.worked_words.Goals as goal

pub returns-clause-forms : goal.returns-clause-forms
unfolding number_of
returns-clause-forms c = (
  asks_for [] Job refl,
  asks_for (codes "--workload" ∷ codes "2" ∷ []) (Workload 2) refl,
  asks_for (codes "--workload=2" ∷ []) (Workload 2) refl,
  asks_for (codes "--workload" ∷ codes "200" ∷ []) (Workload 200) refl,
  asks_for (codes "--workload=1" ∷ []) (Workload 1) refl,
)

pub returns-clause-no_form : goal.returns-clause-no_form
unfolding number_of
returns-clause-no_form c = (
  asks_for (codes "--workload" ∷ []) Nothing refl,
  asks_for (codes "--workload=" ∷ []) Nothing refl,
  asks_for (codes "--workload" ∷ codes "0" ∷ []) Nothing refl,
  asks_for (codes "--workload" ∷ codes "201" ∷ []) Nothing refl,
  asks_for (codes "--workload=201" ∷ []) Nothing refl,
  asks_for (codes "--workload" ∷ codes "07" ∷ []) Nothing refl,
  asks_for (codes "--workload" ∷ codes "+2" ∷ []) Nothing refl,
  asks_for (codes "--workload=" ∷ codes "2" ∷ []) Nothing refl,
  asks_for (codes "--workload" ∷ codes "2" ∷ codes "x" ∷ []) Nothing refl,
  asks_for (codes "--workload" ∷ codes "2" ∷ codes "--workload" ∷ codes "2" ∷ []) Nothing refl,
  asks_for (codes "--" ∷ codes "--workload" ∷ codes "2" ∷ []) Nothing refl,
  asks_for (codes "--help" ∷ []) Nothing refl,
  asks_for (codes "2" ∷ []) Nothing refl,
  asks_for ([] ∷ []) Nothing refl,
)
