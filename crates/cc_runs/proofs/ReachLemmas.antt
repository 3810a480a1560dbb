-- What sets reach through a typed store: a set without the universal capability reaches all that is reached from below it.
use Rattle.cc_core.proofs.SubcapturingContexts.{IsKindedContext, entry_kinded}
use Rattle.std.proofs.Common.{◌≡◌, ℕ, ◌<◌, [], ◌∷◌, length, Option, Some, None, inl, inr, ◌⊎◌, refl, sym, ap, ◌∙◌, subst, arith}
use Rattle.cc_capture.specs.declared.var.Var.TheVariants.{Free}
use Rattle.cc_capture.specs.declared.var.Elem.{Elem}
use Rattle.cc_capture.specs.declared.var.Elem.TheVariants.{Var as Variable, Cap}
use Rattle.cc_capture.specs.Sets.{Set, Member, empty, union}
use Rattle.cc_capture.proofs.Membership.{Member-empty, Member-union}
use Rattle.cc_core.specs.Shapes.{Shape, BaseShape, ExitShape}
use Rattle.cc_core.specs.Terms.{Term}
use Rattle.cc_core.specs.Contexts.{Bind, TermEntry, Context, lookup}
use Rattle.cc_core.specs.Substitution.{single}
use Rattle.cc_core.specs.WellFormed.{TermKind, kinds_of}
use Rattle.cc_core.specs.Captured.{captured_variables, variable_set}
use Rattle.cc_core.specs.Subcapturing.{Subcaptures, element, variable, SubcapturesSet}
use Rattle.cc_core.specs.Typing.{HasNoCap}
use Rattle.cc_core.specs.Stores.{Cell, ValueCell, DeviceCell, LabelCell, Store}
use Rattle.cc_core.proofs.Lookups.{lookup-newest, lookup-other, lookup-older, lookup-below}
use Rattle.cc_core.proofs.SubcapturingLemmas.{cap_below}
use Rattle.cc_core.proofs.Moving.{Member-single, Member-single_itself}
use Rattle.cc_core.proofs.KindFacts.{IsKindedElement, IsKindedSet}
use Rattle.cc_runs.specs.Reach.{IsEnd, Reaches, here, through, SetReaches}
use Rattle.cc_typing_laws.proofs.FormedContexts.{length-kinds_of}
use Rattle.cc_typing_laws.proofs.FreeMaps.{lookup_cases}
use Rattle.cc_typing_laws.proofs.InternalTyping.{Typed, captured_kinded}
use Rattle.cc_typing_laws.proofs.TypingMaps.{typed_kinded_term}
use Rattle.cc_typing_laws.proofs.TypingLemmas.{answer_captures}
use Rattle.cc_runs.proofs.StoreTyping.{StoreTyped, no_cell, value_cell, recursive_cell, device_cell, label_cell, store_formed, store_length, function_is_value, CellTyped, a_value, a_device, a_label, cell_typed}

at_cell : (st : Store) (g : Context) (y : Cell) (s0 : Shape) (c0 : Set) (p : ℕ) (x : Cell) → length st ≡ length g
    → (lookup st p ≡ Some x → (s : Shape) × (c : Set) × (lookup g p ≡ Some (TermEntry s c)))
    → lookup (y ∷ st) p ≡ Some x → (s : Shape) × (c : Set) × (lookup (TermEntry s0 c0 ∷ g) p ≡ Some (TermEntry s c))
at_cell st g y s0 c0 p x len older there =
    elim (lookup_cases y st p x there) as (λ _. (s : Shape) × (c : Set) × (lookup (TermEntry s0 c0 ∷ g) p ≡ Some (TermEntry s c))) [
      | inl new ↦ (s0, c0, ap (lookup (TermEntry s0 c0 ∷ g)) (new.0 ∙ len) ∙ lookup-newest (TermEntry s0 c0) g)
      | inr old ↦ let found = older old.1 in (found.0, found.1, lookup-older (TermEntry s0 c0) g p (TermEntry found.0 found.1) found.2)
    ]

-- each cell has an entry
pub store_entry : {st : Store} {g : Context} → StoreTyped st g → (p : ℕ) (x : Cell) → lookup st p ≡ Some x → (s : Shape) × (c : Set) × (lookup g p ≡ Some (TermEntry s c))
store_entry no_cell p x there = cc
store_entry (value_cell {st = st} {g = g} {v = v} {s = s} {c = c} stored isv typed) p x there =
    at_cell st g (ValueCell v) s c p x (store_length stored) (store_entry stored p x) there
store_entry (recursive_cell {st = st} {g = g} {v = v} {s = s} {c = c} stored isf ks kc typed) p x there =
    at_cell st g (ValueCell v) s c p x (store_length stored) (store_entry stored p x) there
store_entry (device_cell {st = st} {g = g} {n = n} {b = b} stored isd) p x there =
    at_cell st g (DeviceCell n b) (BaseShape b) (single Cap) p x (store_length stored) (store_entry stored p x) there
store_entry (label_cell {st = st} {g = g} {n = n} {s = s} stored ks) p x there =
    at_cell st g (LabelCell n) (ExitShape s) (single Cap) p x (store_length stored) (store_entry stored p x) there

-- what a well-formed set names stands in the store
pub kinded_within : (g : Context) (q : ℕ) (c : Set) → IsKindedSet (kinds_of g) [] c → Member (Variable (Free q)) c → q < length g
kinded_within g q c k m = let below = lookup-below (kinds_of g) q TermKind (k (Variable (Free q)) m) in let len = length-kinds_of g in omega arith

pub value_of : {g : Context} {o : Option Cell} {s : Shape} {c : Set} → CellTyped g o s c → (v : Term) → o ≡ Some (ValueCell v) → Typed g v s c
value_of {g = g} (a_value {v = v} {s = s} {c = c} isv typed) w e = subst (λ x. Typed g x s c) (let same : v ≡ w = cc in same) typed
value_of (a_device b) w e = cc
value_of a_label w e = cc

pub captured_within : {st : Store} {g : Context} → StoreTyped st g → (p q : ℕ) (v : Term) → lookup st p ≡ Some (ValueCell v) → Member (Variable (Free q)) (captured_variables v) → q < length st
captured_within {st = st} {g = g} stored p q v there m =
    let entry = store_entry stored p (ValueCell v) there in
    let typed = value_of (cell_typed stored p entry.0 entry.1 entry.2) v there in
    let below = kinded_within g q (captured_variables v) (captured_kinded (kinds_of g) [] v (typed_kinded_term typed)) m in
    let len = store_length stored in omega arith

-- chains stay when a cell is added, and no new ones come from older positions
pub reaches-added : {st : Store} {p : ℕ} {x : Cell} (y : Cell) → Reaches st p x → Reaches (y ∷ st) p x
reaches-added {st = st} y (here {position = p} {cell = x} there end) = here (lookup-older y st p x there) end
reaches-added {st = st} y (through {position = p} {value = v} there m rest) = through (lookup-older y st p (ValueCell v) there) m (reaches-added y rest)

pub set_reaches-added : {st : Store} (c : Set) {x : Cell} (y : Cell) → SetReaches st c x → SetReaches (y ∷ st) c x
set_reaches-added c y r = (r.0, r.1, reaches-added y r.2)

older_there : (st : Store) (y : Cell) (p : ℕ) (x : Cell) → lookup (y ∷ st) p ≡ Some x → p < length st → lookup st p ≡ Some x
older_there st y p x there less = sym (lookup-other y st p (λ e. omega arith)) ∙ there

pub reaches-older : {st : Store} {g : Context} → StoreTyped st g → (y : Cell) {p : ℕ} {x : Cell} → Reaches (y ∷ st) p x → p < length st → Reaches st p x
reaches-older {st = st} stored y (here {position = p} {cell = x} there end) less = here (older_there st y p x there less) end
reaches-older {st = st} stored y (through {position = p} {next = q} {value = v} there m rest) less =
    let there' = older_there st y p (ValueCell v) there less in
    through there' m (reaches-older stored y rest (captured_within stored p q v there' m))

pub set_reaches-older : {st : Store} {g : Context} → StoreTyped st g → (y : Cell) (c : Set) {x : Cell} → IsKindedSet (kinds_of g) [] c → SetReaches (y ∷ st) c x → SetReaches st c x
set_reaches-older {g = g} stored y c k r =
    let within = kinded_within g r.0 c k r.1 in
    let len = store_length stored in
    (r.0, r.1, reaches-older stored y r.2 (omega arith))

-- strengthening: what is below in a context with one entry more is below without it
strengthen : {g' : Context} {x : Elem} {c : Set} → Subcaptures g' x c → (b : Bind) (g : Context) → g' ≡ (b ∷ g) → IsKindedContext g → IsKindedElement (kinds_of g) [] x → Subcaptures g x c
strengthen (element m) b g e formed k = element m
strengthen (variable {position = p} {shape = s} {declared = d} there each) b g e formed k =
    let below = lookup-below (kinds_of g) p TermKind k in
    let len = length-kinds_of g in
    let there' : lookup (b ∷ g) p ≡ Some (TermEntry s d) = subst (λ h. lookup h p ≡ Some (TermEntry s d)) e there in
    let old : lookup g p ≡ Some (TermEntry s d) = sym (lookup-other b g p (λ q. omega arith)) ∙ there' in
    variable old (λ y m. strengthen (each y m) b g e formed ((entry_kinded g p (TermEntry s d) formed old).1 y m))

-- a cell reaches only what its declared set reaches, if that has no universal capability
abbrev pub DeclaredReach : Store → Context → Type 0
DeclaredReach st g = (p : ℕ) (s : Shape) (d : Set) (x : Cell) → lookup g p ≡ Some (TermEntry s d) → HasNoCap d → Reaches st p x → SetReaches st d x

below_reaches : (g : Context) {e : Elem} {c : Set} → Subcaptures g e c → (st : Store) → DeclaredReach st g → HasNoCap c → (q : ℕ) (x : Cell) → e ≡ Variable (Free q) → Reaches st q x → SetReaches st c x
below_reaches g (element {e = e} {set = c} m) st declared none q x same r = (q, subst (λ y. Member y c) same m, r)
below_reaches g (variable {position = p} {shape = s} {declared = d} {set = c} there each) st declared none q x same r =
    let is : p ≡ q = cc in
    let at = declared p s d x there (λ cap. none (cap_below g d c each cap)) (subst (λ y. Reaches st y x) (sym is) r) in
    below_reaches g (each (Variable (Free at.0)) at.1) st declared none at.0 x refl at.2

no_value_end : (st : Store) (v : Term) (p : ℕ) (x : Cell) → lookup st p ≡ Some (ValueCell v) → lookup st p ≡ Some x → IsEnd x → ⊥
no_value_end st v p (ValueCell w) at there end = end
no_value_end st v p (DeviceCell n b) at there end = let clash : Some (ValueCell v) ≡ Some (DeviceCell n b) = sym at ∙ there in cc
no_value_end st v p (LabelCell n) at there end = let clash : Some (ValueCell v) ≡ Some (LabelCell n) = sym at ∙ there in cc

same_value : (v w : Term) → Some (ValueCell v) ≡ Some (ValueCell w) → v ≡ w
same_value v w e = cc

-- the chains from the newest cell, which has a value
module _ (st : Store) (g : Context) (stored : StoreTyped st g) (declared : DeclaredReach st g) (v : Term) (s0 : Shape) (c0 : Set) (none : HasNoCap c0) where
  newest_value : lookup (ValueCell v ∷ st) (length st) ≡ Some (ValueCell v)
  newest_value = lookup-newest (ValueCell v) st

  plain_chain : SubcapturesSet g (captured_variables v) c0 → IsKindedSet (kinds_of g) [] (captured_variables v) → {p : ℕ} {x : Cell} → Reaches (ValueCell v ∷ st) p x → p ≡ length st → SetReaches (ValueCell v ∷ st) c0 x
  plain_chain captures k (here {position = p} {cell = x} there end) same = absurd (no_value_end (ValueCell v ∷ st) v p x (ap (lookup (ValueCell v ∷ st)) same ∙ newest_value) there end)
  plain_chain captures k (through {position = p} {next = q} {value = w} {cell = x} there m rest) same =
      let is : v ≡ w = same_value v w (sym (ap (lookup (ValueCell v ∷ st)) same ∙ newest_value) ∙ there) in
      let m' : Member (Variable (Free q)) (captured_variables v) = subst (λ t. Member (Variable (Free q)) (captured_variables t)) (sym is) m in
      let within = kinded_within g q (captured_variables v) k m' in
      let len = store_length stored in
      let old = reaches-older stored (ValueCell v) rest (omega arith) in
      set_reaches-added c0 (ValueCell v) (below_reaches g (captures (Variable (Free q)) m') st declared none q x refl old)

  own_chain : SubcapturesSet (TermEntry s0 c0 ∷ g) (captured_variables v) c0 → IsKindedSet (kinds_of (TermEntry s0 c0 ∷ g)) [] (captured_variables v) → {p : ℕ} {x : Cell} → Reaches (ValueCell v ∷ st) p x → p ≡ length st
      → SetReaches (ValueCell v ∷ st) c0 x
  own_chain captures k (here {position = p} {cell = x} there end) same = absurd (no_value_end (ValueCell v ∷ st) v p x (ap (lookup (ValueCell v ∷ st)) same ∙ newest_value) there end)
  own_chain captures k (through {position = p} {next = q} {value = w} {cell = x} there m rest) same =
      let is : v ≡ w = same_value v w (sym (ap (lookup (ValueCell v ∷ st)) same ∙ newest_value) ∙ there) in
      let m' : Member (Variable (Free q)) (captured_variables v) = subst (λ t. Member (Variable (Free q)) (captured_variables t)) (sym is) m in
      let kind = k (Variable (Free q)) m' in
      let len = store_length stored in
      let lenk = length-kinds_of g in
      elim (lookup_cases TermKind (kinds_of g) q TermKind kind) as (λ _. SetReaches (ValueCell v ∷ st) c0 x) [
        | inl new ↦ own_chain captures k rest (let own = new.0 in omega arith)
        | inr old ↦
            let less = old.0 in
            let older = reaches-older stored (ValueCell v) rest (omega arith) in
            let below = strengthen (captures (Variable (Free q)) m') (TermEntry s0 c0) g refl (store_formed stored) old.1 in
            set_reaches-added c0 (ValueCell v) (below_reaches g below st declared none q x refl older)
      ]

-- the newest cell, or an older one
declared_cases : (st : Store) (g : Context) (stored : StoreTyped st g) (y : Cell) (s0 : Shape) (c0 : Set) → DeclaredReach st g
    → ((x : Cell) → HasNoCap c0 → Reaches (y ∷ st) (length st) x → SetReaches (y ∷ st) c0 x) → DeclaredReach (y ∷ st) (TermEntry s0 c0 ∷ g)
declared_cases st g stored y s0 c0 older newest p s d x there none r =
    let len = store_length stored in
    elim (lookup_cases (TermEntry s0 c0) g p (TermEntry s d) there) as (λ _. SetReaches (y ∷ st) d x) [
      | inl new ↦
          let same_entry : TermEntry s d ≡ TermEntry s0 c0 = new.1 in
          let is : d ≡ c0 = cc in
          let at : p ≡ length st = new.0 ∙ sym len in
          subst (λ z. SetReaches (y ∷ st) z x) (sym is) (newest x (subst HasNoCap is none) (subst (λ q. Reaches (y ∷ st) q x) at r))
      | inr old ↦
          let less = old.0 in
          set_reaches-added d y (older p s d x old.1 none (reaches-older stored y r (omega arith)))
    ]

nothing_there : {b : Bind} → None ≡ Some b → ⊥
nothing_there e = cc

pub declared_reach : {st : Store} {g : Context} → StoreTyped st g → DeclaredReach st g
declared_reach no_cell = λ p s d x there none r. absurd (nothing_there there)
declared_reach (value_cell {st = st} {g = g} {v = v} {s = s0} {c = c0} stored isv typed) =
    declared_cases st g stored (ValueCell v) s0 c0 (declared_reach stored)
    (λ x none r. plain_chain st g stored (declared_reach stored) v s0 c0 none (answer_captures typed isv) (captured_kinded (kinds_of g) [] v (typed_kinded_term typed)) r refl)
declared_reach (recursive_cell {st = st} {g = g} {v = v} {s = s0} {c = c0} stored isf ks kc typed) =
    declared_cases st g stored (ValueCell v) s0 c0 (declared_reach stored)
    (λ x none r. own_chain st g stored (declared_reach stored) v s0 c0 none (answer_captures typed (function_is_value v isf)) (captured_kinded (kinds_of (TermEntry s0 c0 ∷ g)) [] v (typed_kinded_term typed)) r refl)
declared_reach (device_cell {st = st} {g = g} {n = n} {b = b} stored isd) =
    declared_cases st g stored (DeviceCell n b) (BaseShape b) (single Cap) (declared_reach stored) (λ x none r. absurd (none (Member-single_itself Cap)))
declared_reach (label_cell {st = st} {g = g} {n = n} {s = s} stored ks) =
    declared_cases st g stored (LabelCell n) (ExitShape s) (single Cap) (declared_reach stored) (λ x none r. absurd (none (Member-single_itself Cap)))

-- A set without the universal capability reaches all that a set below it reaches.
pub set_reaches-below : {st : Store} {g : Context} → StoreTyped st g → (c d : Set) → SubcapturesSet g c d → HasNoCap d → (x : Cell) → SetReaches st c x → SetReaches st d x
set_reaches-below {st = st} {g = g} stored c d below none x r = below_reaches g (below (Variable (Free r.0)) r.1) st (declared_reach stored) none r.0 x refl r.2

no_cap_in_empty : HasNoCap empty
no_cap_in_empty h = Member-empty Cap h

-- what is below the empty set reaches nothing
pub reaches_nothing : {st : Store} {g : Context} → StoreTyped st g → (c : Set) → SubcapturesSet g c empty → (x : Cell) → SetReaches st c x → ⊥
reaches_nothing stored c below x r =
    let at = set_reaches-below stored c empty below no_cap_in_empty x r in
    Member-empty (Variable (Free at.0)) at.1

-- sets and their unions
pub set_reaches-left : {st : Store} (a b : Set) {x : Cell} → SetReaches st a x → SetReaches st (union a b) x
set_reaches-left a b r = (r.0, (Member-union (Variable (Free r.0)) a b).1 (inl r.1), r.2)

pub set_reaches-right : {st : Store} (a b : Set) {x : Cell} → SetReaches st b x → SetReaches st (union a b) x
set_reaches-right a b r = (r.0, (Member-union (Variable (Free r.0)) a b).1 (inr r.1), r.2)

pub set_reaches-either : {st : Store} (a b : Set) {x : Cell} → SetReaches st (union a b) x → SetReaches st a x ⊎ SetReaches st b x
set_reaches-either {st = st} a b {x = x} r =
    elim ((Member-union (Variable (Free r.0)) a b).0 r.1) as (λ _. SetReaches st a x ⊎ SetReaches st b x) [ inl m ↦ inl (r.0, m, r.2) | inr m ↦ inr (r.0, m, r.2) ]

pub set_reaches-none : {st : Store} {x : Cell} → SetReaches st empty x → ⊥
set_reaches-none r = Member-empty (Variable (Free r.0)) r.1

pub set_reaches-within : {st : Store} (a b : Set) {x : Cell} → ((p : ℕ) → Member (Variable (Free p)) a → Member (Variable (Free p)) b) → SetReaches st a x → SetReaches st b x
set_reaches-within a b within r = (r.0, within r.0 r.1, r.2)

pub position_reaches : {st : Store} {p : ℕ} {x : Cell} → Reaches st p x → SetReaches st (variable_set (Free p)) x
position_reaches {p = p} r = (p, Member-single_itself (Variable (Free p)), r)

pub variable_reaches : {st : Store} {p : ℕ} {x : Cell} → SetReaches st (variable_set (Free p)) x → Reaches st p x
variable_reaches {st = st} {p = p} {x = x} r =
    let same = Member-single (Variable (Free r.0)) (Variable (Free p)) r.1 in
    let is : r.0 ≡ p = cc in
    subst (λ q. Reaches st q x) is r.2
