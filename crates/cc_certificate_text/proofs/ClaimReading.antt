-- The number of a claim's binders, and what is read as two sides.
use Rattle.std.proofs.Common.{◌≡◌, ℕ, zero, suc, ◌+◌, ◌^◌, ◌<◌, ◌≤◌, Bool, true, false, ◌||◌, ◌==◌, not, List, [], ◌∷◌, ◌++◌, Option, Some, None, length, decimal, codes, bytes_eq, refl, sym, ap, subst, ◌∙◌, arith, append_assoc, ◌⊎◌, inl, inr, ⊎_elim}
use Rattle.std.specs.Prelude.{is_some, max}
use Rattle.std.specs.List.{AllByRecursion, IsDistinct}
use Rattle.cc_base.specs.Names.{IsName}
use Rattle.cc_base.specs.declared.literal.Base.TheVariants as bases
use Rattle.cc_capture.specs.declared.var.Var.{Var}
use Rattle.cc_capture.specs.declared.var.Var.TheVariants.{Bound, Free}
use Rattle.cc_capture.specs.declared.var.Elem.{Elem}
use Rattle.cc_capture.specs.declared.var.Elem.TheVariants.{Var as Variable, Cap, Hole}
use Rattle.cc_capture.specs.Sets.{Set, Member, contains, image, empty}
use Rattle.cc_capture.proofs.Membership.{Member-image}
use Rattle.cc_core.specs.Shapes.{Shape, BaseShape, AnyShape, TypeVariable, FunctionShape, TypeFunctionShape, BoxShape, ExitShape, CapturingType, capturing}
use Rattle.cc_core.specs.Derivations.{Claim}
use Rattle.cc_print.specs.TypeTexts.{numbered, element_text, others_text, elements_text, set_under, is_arrow, with_elements}
use Rattle.cc_certificate_text.specs.Heights.{shape_height}
use Rattle.cc_certificate_text.specs.LocalNames.{has_binder}
use Rattle.cc_certificate_text.specs.Certificates.{binder_number}
use Rattle.cc_certificate_text.specs.Reading.{Found, Got, Wrong, Reader, ◌>>=◌, where_true, begun, Printed, exact_at, number_at}
use Rattle.cc_certificate_text.specs.LineReading.{first_over, first_at, value_of, either_number, same_truth, NumberedClaim, numbered_claim, first_behind, right_at, below_at}
use Rattle.cc_certificate_text.proofs.Readers.{got_from_bind, got_from_test, got_parts, exact_at_gives, exact_at-text, number_at-decimal}
use Rattle.cc_certificate_text.proofs.Seen.{seen, seen_element, bound_text}
use Rattle.cc_certificate_text.proofs.SetOrders.{listed_all}
use Rattle.cc_certificate_text.proofs.ReadTypes.{NamedSet, NamedShape, HasElements, written_set, elements_written, viewed, stext, ttext, type_without, plain_with_set, arrow_with_set, some_or_empty}
use Rattle.cc_certificate_text.proofs.ReadShapes.{three_texts, five_texts, height_some}

abbrev pub first_number : Bool → ℕ → Option ℕ
first_number true number = Some number
first_number false number = None

module _ (names : List (List ℕ)) (all : AllByRecursion IsName names) (apart : IsDistinct bytes_eq names) where
  abbrev S : ℕ → Shape → List ℕ
  S depth shape = stext names all apart Printed depth shape

  abbrev T : ℕ → CapturingType → List ℕ
  T depth type = ttext names all apart Printed depth type

  abbrev N : ℕ → Shape → Type 0
  N depth shape = NamedShape names all apart Printed depth shape

  function_text : (depth : ℕ) (takes : Shape) (c : Set) (gives : Shape) (d : Set) (rest : List ℕ)
      → S depth (FunctionShape takes c gives d) ++ rest
      ≡ codes "(_" ++ (decimal depth ++ (codes ": " ++ (T depth (capturing takes c) ++ (codes ") -> " ++ (T (suc depth) (capturing gives d) ++ rest)))))
  function_text depth takes c gives d rest =
      five_texts (numbered (codes "(_") depth) (codes ": ") (T depth (capturing takes c)) (codes ") -> ") (T (suc depth) (capturing gives d)) rest

  type_function_text : (depth : ℕ) (bound gives : Shape) (d : Set) (rest : List ℕ)
      → S depth (TypeFunctionShape bound gives d) ++ rest
      ≡ codes "[_T" ++ (decimal depth ++ (codes " <: " ++ (S depth bound ++ (codes "] -> " ++ (T (suc depth) (capturing gives d) ++ rest)))))
  type_function_text depth bound gives d rest =
      five_texts (numbered (codes "[_T") depth) (codes " <: ") (S depth bound) (codes "] -> ") (T (suc depth) (capturing gives d)) rest

  number_first : (deeper : Reader ℕ) (depth : ℕ) (after : List ℕ)
      → (first_over deeper (codes "(_" ++ after) ≡ number_at after) × (first_over deeper (codes "((_" ++ after) ≡ number_at after)
      × (first_over deeper (codes "[_T" ++ after) ≡ number_at after) × (first_over deeper (codes "([_T" ++ after) ≡ number_at after)
  unfolding first_over begun
  number_first deeper depth after = (refl, refl, refl, refl)

  -- the number of an arrow's binder, also behind a parenthesis
  arrow_first : (deeper : Reader ℕ) (depth : ℕ) (shape : Shape) (rest : List ℕ) → is_arrow shape ≡ true → N depth shape
      → (value_of (first_over deeper (S depth shape ++ rest)) ≡ Some depth)
      × (value_of (first_over deeper (40 ∷ (S depth shape ++ rest))) ≡ Some depth)
  arrow_first deeper depth (BaseShape base) rest is named = absurd (no_truth is)
    where
      no_truth : false ≡ true → ⊥
      no_truth e = cc
  arrow_first deeper depth AnyShape rest is named = absurd (no_truth is)
    where
      no_truth : false ≡ true → ⊥
      no_truth e = cc
  arrow_first deeper depth (TypeVariable v) rest is named = absurd (no_truth is)
    where
      no_truth : false ≡ true → ⊥
      no_truth e = cc
  arrow_first deeper depth (FunctionShape takes c gives d) rest is named =
      let after = codes ": " ++ (T depth (capturing takes c) ++ (codes ") -> " ++ (T (suc depth) (capturing gives d) ++ rest))) in
      let read = number_at-decimal depth after named.0 refl in
      let fronts = number_first deeper depth (decimal depth ++ after) in (
        ap (λ b. value_of (first_over deeper b)) (function_text depth takes c gives d rest) ∙ (ap value_of fronts.0 ∙ ap value_of read),
        ap (λ b. value_of (first_over deeper (40 ∷ b))) (function_text depth takes c gives d rest) ∙ (ap value_of fronts.1 ∙ ap value_of read),
      )
  arrow_first deeper depth (TypeFunctionShape bound gives d) rest is named =
      let after = codes " <: " ++ (S depth bound ++ (codes "] -> " ++ (T (suc depth) (capturing gives d) ++ rest))) in
      let read = number_at-decimal depth after named.0 refl in
      let fronts = number_first deeper depth (decimal depth ++ after) in (
        ap (λ b. value_of (first_over deeper b)) (type_function_text depth bound gives d rest) ∙ (ap value_of fronts.2 ∙ ap value_of read),
        ap (λ b. value_of (first_over deeper (40 ∷ b))) (type_function_text depth bound gives d rest) ∙ (ap value_of fronts.3 ∙ ap value_of read),
      )
  arrow_first deeper depth (BoxShape content c) rest is named = absurd (no_truth is)
    where
      no_truth : false ≡ true → ⊥
      no_truth e = cc
  arrow_first deeper depth (ExitShape gives) rest is named = absurd (no_truth is)
    where
      no_truth : false ≡ true → ⊥
      no_truth e = cc

  arrow_binds : (shape : Shape) → is_arrow shape ≡ true → has_binder shape ≡ true
  arrow_binds (BaseShape base) is = cc
  arrow_binds AnyShape is = cc
  arrow_binds (TypeVariable v) is = cc
  arrow_binds (FunctionShape takes c gives d) is = refl
  arrow_binds (TypeFunctionShape bound gives d) is = refl
  arrow_binds (BoxShape content c) is = cc
  arrow_binds (ExitShape gives) is = cc

  abbrev FirstOf : ℕ → ℕ → Shape → List ℕ → Type 0
  FirstOf room depth shape bytes = value_of (first_at room bytes) ≡ first_number (has_binder shape) depth

  arrow_in_parentheses : (room depth : ℕ) (shape : Shape) (rest : List ℕ) → 0 < room → is_arrow shape ≡ true → N depth shape
      → FirstOf room depth shape (40 ∷ (S depth shape ++ rest))
  unfolding first_at
  arrow_in_parentheses zero depth shape rest some is named = absurd (omega arith)
  arrow_in_parentheses (suc room) depth shape rest some is named =
      (arrow_first (first_at room) depth shape rest is named).1 ∙ ap (λ b. first_number b depth) (sym (arrow_binds shape is))

  -- of a type, where it is so of its shape
  type_first : (room depth : ℕ) (shape : Shape) (set : Set) (rest : List ℕ) → 0 < room → N depth shape
      → NamedSet names all apart Printed depth set → ((r : List ℕ) → FirstOf room depth shape (S depth shape ++ r))
      → FirstOf room depth shape (T depth (capturing shape set) ++ rest)
  type_first room depth shape set rest some named ok here =
      ⊎_elim (λ elements. with_set elements (is_arrow shape) refl)
      (λ none. subst (λ s. FirstOf room depth shape (T depth (capturing shape s) ++ rest)) none
      (subst (λ t. FirstOf room depth shape (t ++ rest)) (sym (type_without names all apart Printed depth shape)) (here rest)))
      (some_or_empty names all apart Printed depth set ok)
    where
      with_set : HasElements names all apart Printed set → (arrow : Bool) → is_arrow shape ≡ arrow
          → FirstOf room depth shape (T depth (capturing shape set) ++ rest)
      with_set elements false is =
          subst (FirstOf room depth shape) (sym (plain_with_set names all apart Printed depth shape set rest is elements))
          (here (94 ∷ 123 ∷ (elements_written names all apart Printed depth set ++ 125 ∷ rest)))
      with_set elements true is =
          subst (FirstOf room depth shape) (sym (arrow_with_set names all apart Printed depth shape set rest is elements))
          (arrow_in_parentheses room depth shape (41 ∷ 94 ∷ 123 ∷ (elements_written names all apart Printed depth set ++ 125 ∷ rest)) some is named)

  content_some : (shape : Shape) (room : ℕ) → shape_height shape ≤ room → 0 < room
  content_some shape zero h = absurd (height_some names all apart Printed shape h)
  content_some shape (suc room) h = omega arith

  -- the number of the outermost binders of a shape
  pub shape_first : (room depth : ℕ) (shape : Shape) (rest : List ℕ) → N depth shape → shape_height shape ≤ room
      → FirstOf room depth shape (S depth shape ++ rest)
  unfolding first_at first_over begun
  shape_first zero depth shape rest named low = absurd (height_some names all apart Printed shape low)
  shape_first (suc room) depth (BaseShape bases.Unit) rest named low = refl
  shape_first (suc room) depth (BaseShape bases.Bool) rest named low = refl
  shape_first (suc room) depth (BaseShape bases.Int) rest named low = refl
  shape_first (suc room) depth (BaseShape bases.Str) rest named low = refl
  shape_first (suc room) depth (BaseShape bases.Console) rest named low = refl
  shape_first (suc room) depth (BaseShape bases.File) rest named low = refl
  shape_first (suc room) depth (BaseShape bases.Counter) rest named low = refl
  shape_first (suc room) depth AnyShape rest named low = refl
  shape_first (suc room) depth (TypeVariable (Bound i)) rest named low =
      subst (λ t. value_of (first_at (suc room) (t ++ rest)) ≡ None) (sym (bound_text Printed names depth (codes "_T") i)) refl
  shape_first (suc room) depth (TypeVariable (Free p)) rest named low = absurd named
  shape_first (suc room) depth (FunctionShape takes c gives d) rest named low =
      (arrow_first (first_at room) depth (FunctionShape takes c gives d) rest refl named).0
  shape_first (suc room) depth (TypeFunctionShape bound gives d) rest named low =
      (arrow_first (first_at room) depth (TypeFunctionShape bound gives d) rest refl named).0
  shape_first (suc room) depth (BoxShape content c) rest named low =
      let inside : shape_height content ≤ room = omega (arith, low) in
      subst (λ b. value_of (first_at (suc room) b) ≡ first_number (has_binder content) depth)
      (sym (three_texts (codes "Box[") (T depth (capturing content c)) (codes "]") rest))
      (type_first room depth content c (codes "]" ++ rest) (content_some content room inside) named.0 named.1
      (λ r. shape_first room depth content r named.0 inside))
  shape_first (suc room) depth (ExitShape gives) rest named low =
      subst (λ b. value_of (first_at (suc room) b) ≡ first_number (has_binder gives) depth)
      (sym (three_texts (codes "Exit[") (S depth gives) (codes "]") rest))
      (shape_first room depth gives (codes "]" ++ rest) named (omega (arith, low)))

  pub whole_type_first : (room depth : ℕ) (type : CapturingType) (rest : List ℕ) → N depth type.shape
      → NamedSet names all apart Printed depth type.set → shape_height type.shape ≤ room
      → FirstOf room depth type.shape (T depth type ++ rest)
  whole_type_first room depth type rest named ok low =
      type_first room depth type.shape type.set rest (content_some type.shape room low) named ok
      (λ r. shape_first room depth type.shape r named low)

  -- WITHOUT BINDERS THE NUMBER DOES NOT MATTER

  IsPlaced : Elem → Type 0
  IsPlaced e = (d d' : ℕ) → element_text names d e ≡ element_text names d' e

  view_placed : (e : Elem) → IsPlaced (seen_element Printed (length names) e)
  unfolding IsPlaced
  view_placed (Variable (Bound i)) d d' = refl
  view_placed (Variable (Free p)) d d' = refl
  view_placed Cap d d' = refl
  view_placed (Hole hole) d d' = refl

  set_placed : (set : Set) → AllByRecursion IsPlaced (written_set names all apart Printed set).list
  unfolding contains
  set_placed set =
      listed_all IsPlaced (written_set names all apart Printed set).list
      (λ e m. let from = (Member-image (seen_element Printed (length names)) e set).0 m in subst IsPlaced from.2 (view_placed from.0))

  others_moved : (d d' : ℕ) (es : List Elem) → AllByRecursion IsPlaced es → others_text names d es ≡ others_text names d' es
  unfolding IsPlaced
  others_moved d d' [] h = refl
  others_moved d d' (e ∷ es) h = λ i. (codes ", " ++ h.0 d d' i) ++ others_moved d d' es h.1 i

  elements_moved : (d d' : ℕ) (es : List Elem) → AllByRecursion IsPlaced es → elements_text names d es ≡ elements_text names d' es
  unfolding IsPlaced
  elements_moved d d' [] h = refl
  elements_moved d d' (e ∷ es) h = λ i. h.0 d d' i ++ others_moved d d' es h.1 i

  pub set_moved : (d d' : ℕ) (set : Set)
      → set_under names d (written_set names all apart Printed set) ≡ set_under names d' (written_set names all apart Printed set)
  set_moved d d' set = ap (λ t. codes "{" ++ t ++ codes "}") (elements_moved d d' (written_set names all apart Printed set).list (set_placed set))

  pub shape_moved : (d d' : ℕ) (shape : Shape) → has_binder shape ≡ false → S d shape ≡ S d' shape
  shape_moved d d' (BaseShape base) none = refl
  shape_moved d d' AnyShape none = refl
  shape_moved d d' (TypeVariable (Bound i)) none = refl
  shape_moved d d' (TypeVariable (Free p)) none = refl
  shape_moved d d' (FunctionShape takes c gives e) none = cc
  shape_moved d d' (TypeFunctionShape bound gives e) none = cc
  shape_moved d d' (BoxShape content c) none =
      λ i. (codes "Box[" ++ with_elements (is_arrow (viewed names all apart Printed content)) (shape_moved d d' content none i)
      (written_set names all apart Printed c).list (set_moved d d' c i)) ++ codes "]"
  shape_moved d d' (ExitShape gives) none = λ i. (codes "Exit[" ++ shape_moved d d' gives none i) ++ codes "]"

  pub type_moved : (d d' : ℕ) (type : CapturingType) → has_binder type.shape ≡ false → T d type ≡ T d' type
  type_moved d d' type none =
      λ i. with_elements (is_arrow (viewed names all apart Printed type.shape)) (shape_moved d d' type.shape none i)
      (written_set names all apart Printed type.set).list (set_moved d d' type.set i)

  pub named_moved : (d d' : ℕ) (shape : Shape) → has_binder shape ≡ false → N d shape → N d' shape
  named_moved d d' (BaseShape base) none h = tt
  named_moved d d' AnyShape none h = tt
  named_moved d d' (TypeVariable (Bound i)) none h = h
  named_moved d d' (TypeVariable (Free p)) none h = h
  named_moved d d' (FunctionShape takes c gives e) none h = cc
  named_moved d d' (TypeFunctionShape bound gives e) none h = cc
  named_moved d d' (BoxShape content c) none h = (named_moved d d' content none h.0, h.1)
  named_moved d d' (ExitShape gives) none h = named_moved d d' gives none h

-- TWO SIDES

same_truth-is : (a b : Bool) → same_truth a b ≡ true → a ≡ b
same_truth-is true true h = refl
same_truth-is true false h = cc
same_truth-is false true h = cc
same_truth-is false false h = refl

same_truth-holds : (a b : Bool) → a ≡ b → same_truth a b ≡ true
same_truth-holds true true h = refl
same_truth-holds true false h = cc
same_truth-holds false true h = cc
same_truth-holds false false h = refl

pub number_is : (first : Option ℕ) (binders : Bool) → binders ≡ is_some first → first ≡ first_number binders (binder_number first)
number_is (Some n) true h = refl
number_is (Some n) false h = cc
number_is None true h = cc
number_is None false h = refl

pub numbered_claim_gives : (first : Option ℕ) (binders : Bool) (claim : Claim) (rest : List ℕ) (x : NumberedClaim) (s : List ℕ)
    → numbered_claim first binders claim rest ≡ Got x s → (binders ≡ is_some first) × ((first, claim) ≡ x) × (rest ≡ s)
numbered_claim_gives first binders claim rest x s h =
    let test = got_from_test (same_truth binders (is_some first)) (Got (first, claim) rest) x s h in
    let parts = got_parts (first, claim) x rest s test.1 in
    (same_truth-is binders (is_some first) test.0, parts.0, parts.1)

pub numbered_claim-holds : (first : Option ℕ) (binders : Bool) (claim : Claim) (rest : List ℕ) → binders ≡ is_some first
    → numbered_claim first binders claim rest ≡ Got (first, claim) rest
numbered_claim-holds first binders claim rest h = rw (same_truth-holds binders (is_some first) h) refl

module _ {A : Type 0} (reader : ℕ → Reader A) (binders : A → Bool) (make : A → A → Claim)
    (Good : ℕ → A → Type 0) (text : ℕ → A → List ℕ) (Ends : List ℕ → Type 0)
    (sound : (depth : ℕ) (bytes : List ℕ) (x : A) (rest : List ℕ) → reader depth bytes ≡ Got x rest → Good depth x × (bytes ≡ text depth x ++ rest))
    (complete : (depth : ℕ) (x : A) (rest : List ℕ) → Good depth x → Ends rest → reader depth (text depth x ++ rest) ≡ Got x rest)
    (first_is : (depth : ℕ) (x : A) (rest : List ℕ) → Good depth x → value_of (first_at 5000 (text depth x ++ rest)) ≡ first_number (binders x) depth)
    (moved : (depth depth' : ℕ) (x : A) → binders x ≡ false → Good depth x → Good depth' x)
    (text_moved : (depth depth' : ℕ) (x : A) → binders x ≡ false → text depth x ≡ text depth' x)
    (ends : (rest : List ℕ) → Ends (codes " <: " ++ rest)) where
  -- the two sides with the number of their binders
  pub record Sides (first : Option ℕ) (left right : A) (bytes rest : List ℕ) : Type 0 where
    pub good_left : Good (binder_number first) left
    pub good_right : Good (binder_number first) right
    pub numbered : (binders left || binders right) ≡ is_some first
    pub written : bytes ≡ text (binder_number first) left ++ (codes " <: " ++ (text (binder_number first) right ++ rest))

  -- a side that was read with the number before it
  left_good : (f : Option ℕ) (other : Option ℕ) (left : A) (bytes after : List ℕ) → value_of (first_at 5000 bytes) ≡ f
      → Good (binder_number f) left → bytes ≡ text (binder_number f) left ++ after
      → Good (binder_number (either_number f other)) left × (bytes ≡ text (binder_number (either_number f other)) left ++ after)
  left_good (Some n) other left bytes after is good e = (good, e)
  left_good None other left bytes after is good e =
      let none = no_binders (binders left) (sym (first_is 0 left after good) ∙ (ap (λ b. value_of (first_at 5000 b)) (sym e) ∙ is)) in
      (moved 0 (binder_number other) left none good, e ∙ ap (λ t. t ++ after) (text_moved 0 (binder_number other) left none))
    where
      no_binders : (b : Bool) → first_number b 0 ≡ None → b ≡ false
      no_binders true h = cc
      no_binders false h = refl

  pub below_gives : (bytes : List ℕ) (x : NumberedClaim) (rest : List ℕ) → below_at reader binders make bytes ≡ Got x rest
      → (first : Option ℕ) × (left : A) × (right : A) × ((first, make left right) ≡ x) × Sides first left right bytes rest
  unfolding below_at right_at
  below_gives bytes x rest h =
      let f = value_of (first_at 5000 bytes) in
      let left = got_from_bind (reader (binder_number f) bytes)
      (λ left r. exact_at (codes " <: ") r >>= λ below r. right_at reader binders make left (first_behind f r) r) x rest h in
      let below = got_from_bind (exact_at (codes " <: ") left.1) (λ below r. right_at reader binders make left.0 (first_behind f r) r) x rest left.3 in
      let after = below.1 in
      let first = first_behind f after in
      let right = got_from_bind (reader (binder_number first) after)
      (λ right r. numbered_claim first (binders left.0 || binders right) (make left.0 right) r) x rest below.3 in
      let found = numbered_claim_gives first (binders left.0 || binders right.0) (make left.0 right.0) right.1 x rest right.3 in
      let one = sound (binder_number f) bytes left.0 left.1 left.2 in
      let two = sound (binder_number first) after right.0 right.1 right.2 in
      let space = exact_at_gives (codes " <: ") left.1 after below.0 below.2 in
      let moved = left_good f (value_of (first_at 5000 after)) left.0 bytes left.1 refl one.0 one.1 in (
        first,
        left.0,
        right.0,
        found.1,
        record {
          good_left = moved.0;
          good_right = two.0;
          numbered = found.0;
          written = moved.1 ∙ ap (λ z. text (binder_number first) left.0 ++ z) (space ∙ ap (λ z. codes " <: " ++ z)
              (two.1 ∙ ap (λ z. text (binder_number first) right.0 ++ z) found.2));
        },
      )

  side_read : (n d : ℕ) (x : A) (rest : List ℕ) → (n ≡ d) ⊎ (binders x ≡ false) → Good d x → Ends rest
      → reader n (text d x ++ rest) ≡ Got x rest
  side_read n d x rest which good end =
      ⊎_elim (λ same. subst (λ m. reader m (text d x ++ rest) ≡ Got x rest) (sym same) (complete d x rest good end))
      (λ none. subst (λ t. reader n (t ++ rest) ≡ Got x rest) (text_moved n d x none) (complete n x rest (moved d n x none good) end))
      which

  left_or_none : (a : Bool) (f : Option ℕ) (d : ℕ) → f ≡ first_number a d → (binder_number f ≡ d) ⊎ (a ≡ false)
  left_or_none true f d e = inl (ap binder_number e)
  left_or_none false f d e = inr refl

  either_first : (a b : Bool) (d : ℕ) → either_number (first_number a d) (first_number b d) ≡ first_number (a || b) d
  either_first true b d = refl
  either_first false b d = refl

  right_read : (first : Option ℕ) (left right : A) (rest : List ℕ) → Good (binder_number first) right → Ends rest
      → (binders left || binders right) ≡ is_some first
      → right_at reader binders make left first (text (binder_number first) right ++ rest) ≡ Got (first, make left right) rest
  unfolding right_at
  right_read first left right rest good end numbered =
      rw (complete (binder_number first) right rest good end)
      (numbered_claim-holds first (binders left || binders right) (make left right) rest numbered)

  below_read : (first : Option ℕ) (left right : A) (rest : List ℕ) → Good (binder_number first) left → Good (binder_number first) right
      → (binders left || binders right) ≡ is_some first → Ends rest
      → below_at reader binders make (text (binder_number first) left ++ (codes " <: " ++ (text (binder_number first) right ++ rest)))
      ≡ Got (first, make left right) rest
  unfolding below_at
  below_read first left right rest good_left good_right numbered end =
      let d = binder_number first in
      let after = text d right ++ rest in
      let whole = text d left ++ (codes " <: " ++ after) in
      let f_is : value_of (first_at 5000 whole) ≡ first_number (binders left) d = first_is d left (codes " <: " ++ after) good_left in
      let left_read = side_read (binder_number (value_of (first_at 5000 whole))) d left (codes " <: " ++ after)
      (left_or_none (binders left) (value_of (first_at 5000 whole)) d f_is) good_left (ends after) in
      let same : first_behind (value_of (first_at 5000 whole)) after ≡ first =
      (λ i. either_number (f_is i) (first_is d right rest good_right i)) ∙ (either_first (binders left) (binders right) d
      ∙ sym (number_is first (binders left || binders right) numbered)) in
      rw (left_read, exact_at-text (codes " <: ") after, same) (right_read first left right rest good_right end numbered)

  pub below-text : (first : Option ℕ) (left right : A) (bytes rest : List ℕ) → Sides first left right bytes rest → Ends rest
      → below_at reader binders make bytes ≡ Got (first, make left right) rest
  below-text first left right bytes rest sides end =
      subst (λ b. below_at reader binders make b ≡ Got (first, make left right) rest) (sym sides.written)
      (below_read first left right rest sides.good_left sides.good_right sides.numbered end)
