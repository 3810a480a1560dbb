-- Which elements are forced into a hole can be decided, and so what is fit has a least filling.
use Rattle.std.proofs.Common.{◌≡◌, ◌⊎◌, ℕ, ◌<◌, ◌≤◌, List, [], ◌∷◌, ◌++◌, length, Some, refl, sym, ap, ◌∙◌, subst, inl, inr, arith}
use Rattle.std.proofs.lemmas.Bool.{cases_lt}
use Rattle.cc_capture.specs.declared.var.Var.TheVariants.{Bound, Free}
use Rattle.cc_capture.specs.declared.var.Elem.{Elem}
use Rattle.cc_capture.specs.declared.var.Elem.TheVariants.{Var as Variable, Cap, Hole}
use Rattle.cc_capture.specs.Sets.{Set, Member}
use Rattle.cc_core.specs.Shapes.{Shape}
use Rattle.cc_core.specs.Contexts.{Bind, TermEntry, Context, lookup}
use Rattle.cc_core.specs.Substitution.{single}
use Rattle.cc_core.specs.WellFormed.{TermKind, kinds_of}
use Rattle.cc_core.proofs.KindFacts.{IsKindedElement, IsKindedSet, IsKindedSet-from}
use Rattle.cc_core.proofs.Lookups.{lookup-older, lookup-cases}
use Rattle.cc_core.proofs.Moving.{Member-single, Member-single_itself}
use Rattle.cc_core.proofs.SubcapturingContexts.{IsKindedEntry, IsKindedContext, IsKindedContext-from, entry_of_term}
use Rattle.cc_checking.specs.Comparison.{Demand}
use Rattle.cc_checking.specs.Outcomes.{Asked, IsBelow, IsCapless, Placed}
use Rattle.cc_checking.specs.Fillings.{Filling, IsAskedIn, Comes, global, capability, local, forced, IsLeast, IsGlobal}
use Rattle.cc_checking_laws.specs.FillingLaws.{AreFit}
use Rattle.cc_core.specs.Holes.{HasHoleAloneOrNone}
use Rattle.cc_checking_laws.proofs.LeastFillings.{comes_global}
use Rattle.cc_checking_laws.proofs.Decisions.{Decided, element_decided, any_member, IsSetOf, collected}

-- where a chain of demands may end: at a global, or at a hole
abbrev IsEnd : ℕ → Elem → Type 0
IsEnd root (Variable (Free position)) = position < root
IsEnd root (Variable (Bound index)) = ⊥
IsEnd root Cap = Unit {0}
IsEnd root (Hole number) = Unit {0}

-- the element leads to another, which is a global or a hole
data Leads (root : ℕ) (list : List Placed) : Context → Elem → Elem → Type 0 where
  itself : {context : Context} {e : Elem} → IsEnd root e → Leads root list context e e
  through : {context : Context} {position : ℕ} {shape : Shape} {declared : Set} {from e : Elem} → root ≤ position
      → lookup context position ≡ Some (TermEntry shape declared) → Member from declared
      → Leads root list context from e → Leads root list context (Variable (Free position)) e
  into : {context : Context} {hole : ℕ} {from e : Elem} (demand : Demand) → IsAskedIn list (IsBelow demand)
      → demand.right ≡ single (Hole hole) → Member from demand.left → Leads root list demand.context from e
      → Leads root list context (Hole hole) e

-- what an element comes from, that leads to it, and back where it is global
comes_leads : {root : ℕ} {list : List Placed} {g : Context} {x e : Elem} → Comes root list g x e → Leads root list g x e
comes_leads (global below) = itself below
comes_leads capability = itself tt
comes_leads (local from there m k) = through from there m (comes_leads k)
comes_leads (forced demand asked is m k) = into demand asked is m (comes_leads k)

comes_itself : (root : ℕ) (list : List Placed) (g : Context) (e : Elem) → IsGlobal root e → Comes root list g e e
comes_itself root list g (Variable (Free p)) h = global h
comes_itself root list g (Variable (Bound i)) h = absurd h
comes_itself root list g Cap h = capability
comes_itself root list g (Hole n) h = absurd h

leads_comes : {root : ℕ} {list : List Placed} {g : Context} {x e : Elem} → Leads root list g x e → IsGlobal root e
    → Comes root list g x e
leads_comes {root} {list} {g} (itself {e = e} k) h = comes_itself root list g e h
leads_comes (through from there m k) h = local from there m (leads_comes k h)
leads_comes (into demand asked is m k) h = forced demand asked is m (leads_comes k h)

-- a hole leads to the same in each context
leads_elsewhere : {root : ℕ} {list : List Placed} {g : Context} {h : ℕ} {e : Elem} (g' : Context)
    → Leads root list g (Hole h) e → Leads root list g' (Hole h) e
leads_elsewhere g' (itself k) = itself k
leads_elsewhere g' (into demand asked is m k) = into demand asked is m k

-- by the form of the element
index_leads : {root : ℕ} {list : List Placed} {g : Context} {i : ℕ} {e : Elem}
    → Leads root list g (Variable (Bound i)) e → ⊥
index_leads (itself k) = k

cap_leads : {root : ℕ} {list : List Placed} {g : Context} {e : Elem} → Leads root list g Cap e → e ≡ Cap
cap_leads (itself k) = refl

global_leads : {root : ℕ} {list : List Placed} {g : Context} {p : ℕ} {e : Elem} → p < root
    → Leads root list g (Variable (Free p)) e → e ≡ Variable (Free p)
global_leads h (itself k) = refl
global_leads h (through from there m k) = absurd (omega arith)

local_leads : {root : ℕ} {list : List Placed} {g : Context} {p : ℕ} {s : Shape} {d : Set} {e : Elem} → root ≤ p
    → lookup g p ≡ Some (TermEntry s d)
    → Leads root list g (Variable (Free p)) e → (x : Elem) × Member x d × Leads root list g x e
local_leads h there (itself k) = absurd (omega arith)
local_leads {d = d} h there (through {declared = d'} {from = x} from there' m k) =
    let same : d' ≡ d = sets_of (sym there' ∙ there) in (x, subst (Member x) same m, k)
  where
    sets_of : {s s' : Shape} {c c' : Set} → Some (TermEntry s c) ≡ Some (TermEntry s' c') → c ≡ c'
    sets_of same = cc

-- what is asked in a list with one more
asked_first : (p : Placed) (list : List Placed) (asked : Asked) → p.asked ≡ asked → IsAskedIn (p ∷ list) asked
asked_first p list asked is = ([], p, list, refl, is)

asked_later : (p : Placed) (list : List Placed) (asked : Asked) → IsAskedIn list asked → IsAskedIn (p ∷ list) asked
asked_later p list asked (before, placed, after, is, same) = (p ∷ before, placed, after, ap (λ l. p ∷ l) is, same)

asked_cases : (p : Placed) (list : List Placed) (asked : Asked) → IsAskedIn (p ∷ list) asked
    → (p.asked ≡ asked) ⊎ IsAskedIn list asked
asked_cases p list asked ([], placed, after, is, same) =
    let first : p ≡ placed = cc in inl (ap (λ (x : Placed). x.asked) first ∙ same)
asked_cases p list asked (b ∷ before, placed, after, is, same) =
    let rest : list ≡ before ++ placed ∷ after = cc in inr (before, placed, after, rest, same)

asked_nowhere : (asked : Asked) → IsAskedIn [] asked → ⊥
asked_nowhere asked ([], placed, after, is, same) = cc
asked_nowhere asked (b ∷ before, placed, after, is, same) = cc

hole_leads_nowhere : {root : ℕ} {g : Context} {h : ℕ} {e : Elem} → Leads root [] g (Hole h) e → e ≡ Hole h
hole_leads_nowhere (itself k) = refl
hole_leads_nowhere (into demand asked is m k) = absurd (asked_nowhere (IsBelow demand) asked)

leads_more : {root : ℕ} {list : List Placed} {g : Context} {x e : Elem} (p : Placed) → Leads root list g x e
    → Leads root (p ∷ list) g x e
leads_more p (itself k) = itself k
leads_more p (through from there m k) = through from there m (leads_more p k)
leads_more {list = list} p (into demand asked is m k) = into demand (asked_later p list (IsBelow demand) asked) is m (leads_more p k)

-- what leads to a hole leads to what the hole leads to
leads_on : {root : ℕ} {list : List Placed} {g : Context} {x y t : Elem} → Leads root list g x y → (h : ℕ) → y ≡ Hole h
    → ((g' : Context) → Leads root list g' (Hole h) t) → Leads root list g x t
leads_on {root} {list} {g} {t = t} (itself k) h same on = subst (λ z. Leads root list g z t) (sym same) (on g)
leads_on (through from there m k) h same on = through from there m (leads_on k h same on)
leads_on (into demand asked is m k) h same on = into demand asked is m (leads_on k h same on)

-- one more that puts nothing into a hole changes nothing
leads_fewer : {root : ℕ} {list : List Placed} (p : Placed)
    → ((demand : Demand) → p.asked ≡ IsBelow demand → (h : ℕ) → demand.right ≡ single (Hole h) → ⊥)
    → {g : Context} {x t : Elem} → Leads root (p ∷ list) g x t → Leads root list g x t
leads_fewer p none (itself k) = itself k
leads_fewer p none (through from there m k) = through from there m (leads_fewer p none k)
leads_fewer {root} {list} p none {g} {t = t} (into {hole = hole} demand asked is m k) =
    elim (asked_cases p list (IsBelow demand) asked) as (λ _. Leads root list g (Hole hole) t) [
      | inl first ↦ absurd (none demand first hole is)
      | inr later ↦ into demand later is m (leads_fewer p none k)
    ]

hole_of : (h h' : ℕ) → single (Hole h) ≡ single (Hole h') → h ≡ h'
hole_of h h' same =
    let both : Hole h ≡ Hole h' = Member-single (Hole h) (Hole h') (subst (Member (Hole h)) same (Member-single_itself (Hole h))) in cc

demand_of : (d d' : Demand) → IsBelow d ≡ IsBelow d' → d ≡ d'
demand_of d d' same = cc

-- some member of the demand's left set leads to it
abbrev Behind : ℕ → List Placed → Demand → Elem → Type 0
Behind root list d t = (from : Elem) × Member from d.left × Leads root list d.context from t

module _ (root : ℕ) (list : List Placed) (p : Placed) (d : Demand) (hole : ℕ) (is : p.asked ≡ IsBelow d) (alone : d.right ≡ single (Hole hole)) where
  -- without the first, or up to the first's hole and on from there
  abbrev Splits : Context → Elem → Elem → Type 0
  Splits g x t = Leads root list g x t ⊎ (Leads root list g x (Hole hole) × Behind root list d t)

  splits_through : {g : Context} {q : ℕ} {s : Shape} {c : Set} {from t : Elem} → root ≤ q
      → lookup g q ≡ Some (TermEntry s c) → Member from c
      → Splits g from t → Splits g (Variable (Free q)) t
  splits_through h there m (inl k) = inl (through h there m k)
  splits_through h there m (inr (k, behind)) = inr (through h there m k, behind)

  splits_into : {g : Context} {h : ℕ} {from t : Elem} (demand : Demand) → IsAskedIn list (IsBelow demand)
      → demand.right ≡ single (Hole h) → Member from demand.left
      → Splits demand.context from t → Splits g (Hole h) t
  splits_into demand asked same m (inl k) = inl (into demand asked same m k)
  splits_into demand asked same m (inr (k, behind)) = inr (into demand asked same m k, behind)

  behind_first : (demand : Demand) → demand ≡ d → {from t : Elem} → Member from demand.left
      → Splits demand.context from t → Behind root list d t
  behind_first demand same {from} {t} m (inl k) =
      subst (λ (x : Demand). (from : Elem) × Member from x.left × Leads root list x.context from t) same (from, m, k)
  behind_first demand same m (inr (k, behind)) = behind

  splits_first : {g : Context} {h : ℕ} {from t : Elem} (demand : Demand) → demand ≡ d → demand.right ≡ single (Hole h)
      → Member from demand.left
      → Splits demand.context from t → Splits g (Hole h) t
  splits_first {g} {h} demand same right m s =
      let here : h ≡ hole = hole_of h hole (sym right ∙ ap (λ (x : Demand). x.right) same ∙ alone) in
      inr (subst (λ n. Leads root list g (Hole h) (Hole n)) here (itself tt), behind_first demand same m s)

  leads_split : {g : Context} {x t : Elem} → Leads root (p ∷ list) g x t → Splits g x t
  leads_split (itself k) = inl (itself k)
  leads_split (through h there m k) = splits_through h there m (leads_split k)
  leads_split {g} {t = t} (into {hole = h} demand asked same m k) =
      elim (asked_cases p list (IsBelow demand) asked) as (λ _. Splits g (Hole h) t) [
        | inl first ↦ splits_first demand (demand_of demand d (sym first ∙ is)) same m (leads_split k)
        | inr later ↦ splits_into demand later same m (leads_split k)
      ]

  leads_join : {g : Context} {x t : Elem} → Leads root list g x (Hole hole) → Behind root list d t
      → Leads root (p ∷ list) g x t
  leads_join k behind =
      leads_on (leads_more p k) hole refl (λ g'. into d (asked_first p list (IsBelow d) is) alone behind.1 (leads_more p behind.2))

-- In a well-formed context it is decided what leads where, once it is for holes.
module _ (root : ℕ) (list : List Placed) (holes : (h : ℕ) (t : Elem) → Decided (Leads root list [] (Hole h) t)) where
  by_element : (g : Context) (x t : Elem)
      → ((q : ℕ) → x ≡ Variable (Free q) → Decided (Leads root list g (Variable (Free q)) t))
      → Decided (Leads root list g x t)
  by_element g (Variable (Free q)) t free = free q refl
  by_element g (Variable (Bound i)) t free = inr index_leads
  by_element g Cap t free =
      elim (element_decided t Cap) as (λ _. Decided (Leads root list g Cap t)) [
        | inl same ↦ inl (subst (Leads root list g Cap) (sym same) (itself tt))
        | inr not_so ↦ inr (λ k. not_so (cap_leads k))
      ]
  by_element g (Hole h) t free =
      elim (holes h t) as (λ _. Decided (Leads root list g (Hole h) t)) [
        | inl k ↦ inl (leads_elsewhere g k)
        | inr not_so ↦ inr (λ k. not_so (leads_elsewhere [] k))
      ]

  kind_there : (g : Context) (x : Elem) → IsKindedElement (kinds_of g) [] x → (q : ℕ) → x ≡ Variable (Free q)
      → lookup (kinds_of g) q ≡ Some TermKind
  kind_there g x k q e = subst (IsKindedElement (kinds_of g) []) e k

  global_decided : (g : Context) (p : ℕ) (t : Elem) → p < root → Decided (Leads root list g (Variable (Free p)) t)
  global_decided g p t below =
      elim (element_decided t (Variable (Free p))) as (λ _. Decided (Leads root list g (Variable (Free p)) t)) [
        | inl same ↦ inl (subst (Leads root list g (Variable (Free p))) (sym same) (itself below))
        | inr not_so ↦ inr (λ k. not_so (global_leads below k))
      ]

  local_decided : (g : Context) (p : ℕ) (s : Shape) (d : Set) (t : Elem) → root ≤ p → lookup g p ≡ Some (TermEntry s d)
      → Decided ((x : Elem) × Member x d × Leads root list g x t) → Decided (Leads root list g (Variable (Free p)) t)
  local_decided g p s d t from there (inl (x, m, k)) = inl (through from there m k)
  local_decided g p s d t from there (inr not_so) = inr (λ k. not_so (local_leads from there k))

  variable_decided : (older g : Context) → ((p : ℕ) (b : Bind) → lookup older p ≡ Some b → lookup g p ≡ Some b)
      → IsKindedContext older
      → (p : ℕ) (s : Shape) (d : Set) → lookup older p ≡ Some (TermEntry s d) → (t : Elem)
      → Decided (Leads root list g (Variable (Free p)) t)
  variable_decided [] g more formed p s d there t = cc
  variable_decided (b ∷ older) g more formed p s d there t =
      elim (lookup-cases b older p (TermEntry s d) there) as (λ _. Decided (Leads root list g (Variable (Free p)) t)) [
        | inl newest ↦
            elim (cases_lt p root) as (λ _. Decided (Leads root list g (Variable (Free p)) t)) [
              | inl below ↦ global_decided g p t below
              | inr from ↦
                  let own : IsKindedEntry (kinds_of older) (TermEntry s d) = subst (IsKindedEntry (kinds_of older)) newest.1 formed.0 in
                  local_decided g p s d t from (more p (TermEntry s d) there)
                  (any_member d (λ x. Leads root list g x t)
                  (λ x m.
                  by_element g x t
                  (λ q e.
                  let entry = entry_of_term older q (kind_there older x (own.1 x m) q e) in
                  variable_decided older g (λ q' b' e'. more q' b' (lookup-older b older q' b' e')) formed.1 q entry.0 entry.1 entry.2 t)))
            ]
        | inr old ↦ variable_decided older g (λ q' b' e'. more q' b' (lookup-older b older q' b' e')) formed.1 p s d old t
      ]

  leads_decided : (g : Context) → IsKindedContext g → (x : Elem) → IsKindedElement (kinds_of g) [] x → (t : Elem)
      → Decided (Leads root list g x t)
  leads_decided g formed x k t =
      by_element g x t (λ q e. let entry = entry_of_term g q (kind_there g x k q e) in variable_decided g g (λ p b h. h) formed q entry.0 entry.1 entry.2 t)

-- the demand's context and left set are well formed, and its right set has no hole or is one
abbrev IsWell : Demand → Type 0
IsWell d = IsKindedContext d.context × IsKindedSet (kinds_of d.context) [] d.left × HasHoleAloneOrNone d.right

-- what leads where, with one more that is asked
module _ (root : ℕ) (list : List Placed) (rest : (h : ℕ) (t : Elem) → Decided (Leads root list [] (Hole h) t)) (p : Placed) where
  unchanged : ((demand : Demand) → p.asked ≡ IsBelow demand → (h : ℕ) → demand.right ≡ single (Hole h) → ⊥)
      → (h : ℕ) (t : Elem)
      → Decided (Leads root (p ∷ list) [] (Hole h) t)
  unchanged none h t =
      elim (rest h t) as (λ _. Decided (Leads root (p ∷ list) [] (Hole h) t)) [
        | inl k ↦ inl (leads_more p k)
        | inr not_so ↦ inr (λ k. not_so (leads_fewer p none k))
      ]

  changed : (d : Demand) → IsWell d → (hole : ℕ) → p.asked ≡ IsBelow d → d.right ≡ single (Hole hole)
      → (h : ℕ) (t : Elem)
      → Decided (Leads root (p ∷ list) [] (Hole h) t)
  changed d well hole is alone h t =
      either (rest h t) (rest h (Hole hole))
      (any_member d.left (λ x. Leads root list d.context x t) (λ x m. leads_decided root list rest d.context well.0 x (well.1 x m) t))
    where
      either : Decided (Leads root list [] (Hole h) t) → Decided (Leads root list [] (Hole h) (Hole hole))
          → Decided (Behind root list d t)
          → Decided (Leads root (p ∷ list) [] (Hole h) t)
      either (inl k) first behind = inl (leads_more p k)
      either (inr not_so) (inl k) (inl behind) = inl (leads_join root list p d hole is alone k behind)
      either (inr not_so) (inl k) (inr none) =
          inr (λ k'. elim (leads_split root list p d hole is alone k') as (λ _. ⊥) [ inl one ↦ not_so one | inr both ↦ none both.1 ])
      either (inr not_so) (inr none) behind =
          inr (λ k'. elim (leads_split root list p d hole is alone k') as (λ _. ⊥) [ inl one ↦ not_so one | inr both ↦ none both.0 ])

  by_right : (d : Demand) → IsWell d → p.asked ≡ IsBelow d → HasHoleAloneOrNone d.right → (h : ℕ) (t : Elem)
      → Decided (Leads root (p ∷ list) [] (Hole h) t)
  by_right d well is (inl none) =
      unchanged (λ demand is' h same.
      let at : d ≡ demand = demand_of d demand (sym is ∙ is') in
      none (Hole h) (subst (Member (Hole h)) (sym (ap (λ (x : Demand). x.right) at ∙ same)) (Member-single_itself (Hole h))))
  by_right d well is (inr (hole, alone)) = changed d well hole is alone

  by_first : (asked : Asked) → p.asked ≡ asked → ((demand : Demand) → p.asked ≡ IsBelow demand → IsWell demand)
      → (h : ℕ) (t : Elem)
      → Decided (Leads root (p ∷ list) [] (Hole h) t)
  by_first (IsBelow d) is well = let w = well d is in by_right d w is w.2
  by_first (IsCapless c) is well = unchanged (λ demand is' h same. other c demand (sym is ∙ is'))
    where
      other : (c : Set) (demand : Demand) → IsCapless c ≡ IsBelow demand → ⊥
      other c demand e = cc

-- it is decided what a hole leads to
holes_decided : (root : ℕ) (list : List Placed)
    → ((demand : Demand) → IsAskedIn list (IsBelow demand) → IsWell demand) → (h : ℕ) (t : Elem)
    → Decided (Leads root list [] (Hole h) t)
holes_decided root [] well h t =
    elim (element_decided t (Hole h)) as (λ _. Decided (Leads root [] [] (Hole h) t)) [
      | inl same ↦ inl (subst (Leads root [] [] (Hole h)) (sym same) (itself tt))
      | inr not_so ↦ inr (λ k. not_so (hole_leads_nowhere k))
    ]
holes_decided root (p ∷ list) well h t =
    by_first root list (λ h' t'. holes_decided root list (λ demand asked. well demand (asked_later p list (IsBelow demand) asked)) h' t') p
    p.asked refl (λ demand is. well demand (asked_first p list (IsBelow demand) is)) h t

-- what is asked is well formed, so the forced elements of each hole can be collected
module _ (globals : Context) (list : List Placed) (fit : AreFit globals list) where
  well : (demand : Demand) → IsAskedIn list (IsBelow demand) → IsWell demand
  well demand asked =
      let own = fit.each (IsBelow demand) asked in
      (IsKindedContext-from demand.context own.1, IsKindedSet-from (kinds_of demand.context) [] demand.left own.2, own.3)

  abbrev reached : ℕ → Elem → Type 0
  reached hole e = Leads (length globals) list [] (Hole hole) e

  forced_set : (hole : ℕ) → (c : Set) × IsSetOf (length globals) (reached hole) c
  forced_set hole = collected (reached hole) (holes_decided (length globals) list well hole) (length globals)

  pub least_exists : (least : Filling) × IsLeast (length globals) list least
  least_exists = (
    λ hole. (forced_set hole).0,
    λ hole e. (
      λ m. let h = ((forced_set hole).1 e).0 m in leads_comes h.1 h.0,
      λ k. ((forced_set hole).1 e).1 (comes_global k, comes_leads k),
    ),
  )
