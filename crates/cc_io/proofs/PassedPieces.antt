-- Lemmas on texts that are written in pieces, one behind the other.
use Rattle.std.proofs.Common.{◌≡◌, ℕ, ◌+◌, ◌<◌, ◌≤◌, List, [], ◌∷◌, ◌++◌, length, take, drop, get_or, Option, Result, Ok, Err, refl, sym, ap, ◌∙◌, subst, arith, append_assoc, append-nil, length-append, take-append-drop, flat_map}
use Rattle.std.proofs.KnownBytes.{Appends-nil, Appends-trans}
use Rattle.std.proofs.Math.Seq.{take-append-add}
use Rattle.std.proofs.lemmas.Grind.{flat_map-append}
use Rattle.std.proofs.lemmas.List.{take-append-le, take_all, take_more}
use Rattle.std.specs.Io.KnownBytes.{Appends}
use Rattle.cc_io.specs.declared.whole.WriteAll.{WriteAll}
use Rattle.cc_io.specs.declared.whole.WriteAll.TheVariants as errors
use Rattle.cc_io.specs.Pieces.{IsPassedOn, Streams}
use Rattle.cc_io.specs.Wholes.{AppendsFront, WritesWhole}

-- nothing is a front
pub front_none : (sink : Option (List ℕ)) (text : List ℕ) → AppendsFront sink sink text
front_none sink text = (0, omega arith, Appends-nil sink)

-- a front of a text is one of what it is the front of
pub front_first : (old new : Option (List ℕ)) (first second : List ℕ) → AppendsFront old new first
    → AppendsFront old new (first ++ second)
front_first old new first second (n, inside, appended) = (
  n,
  omega (arith, length-append first second),
  subst (Appends old new) (sym (take-append-le n first second inside)) appended,
)

-- a front of the second text behind the whole first one is a front of both
pub front_second : (old between new : Option (List ℕ)) (first second : List ℕ) → Appends old between first
    → AppendsFront between new second → AppendsFront old new (first ++ second)
front_second old between new first second whole (n, inside, appended) = (
  length first + n,
  omega (arith, length-append first second),
  subst (Appends old new) (sym (take-append-add first second n)) (Appends-trans old between new first (take n second) whole appended),
)

-- nothing was put behind what waits
pub passed_nothing : (sink : Option (List ℕ)) (waiting : List ℕ) → IsPassedOn sink sink waiting waiting []
passed_nothing sink waiting = record { gone = []; appended = Appends-nil sink; all = sym (append-nil waiting) }

-- all that waits is appended
pub passed_all : (old new : Option (List ℕ)) (before : List ℕ) → Appends old new before → IsPassedOn old new before [] []
passed_all old new before appended = record { gone = before; appended = appended; all = refl }

-- what waited may have had its last piece put behind it before
pub streams_behind : {T : Type 0} (old new : Option (List ℕ)) (before between waiting text : List ℕ) (result : Result T WriteAll)
    → between ≡ before ++ text → Streams old new between waiting result [] → Streams old new before waiting result text
streams_behind old new before between waiting text (Ok u) is passed =
    record { gone = passed.gone; appended = passed.appended; all = passed.all ∙ append-nil between ∙ is }
streams_behind old new before between waiting text (Err error) is front =
    subst (AppendsFront old new) (append-nil between ∙ is) front

module _ (a b c : Option (List ℕ)) (before between waiting : List ℕ) where
  -- one text behind another is both
  pub passed_both : (first second : List ℕ) → IsPassedOn a b before between first → IsPassedOn b c between waiting second
      → IsPassedOn a c before waiting (first ++ second)
  passed_both first second p q = record {
    gone = p.gone ++ q.gone;
    appended = Appends-trans a b c p.gone q.gone p.appended q.appended;
    all = append_assoc p.gone q.gone waiting ∙ ap (λ t. p.gone ++ t) q.all ∙ sym (append_assoc p.gone between second)
        ∙ ap (λ t. t ++ second) p.all ∙ append_assoc before first second;
  }

  -- at an error in the second of two texts a front of both is appended
  pub stopped_second : (first second : List ℕ) → IsPassedOn a b before between first → AppendsFront b c (between ++ second)
      → AppendsFront a c (before ++ (first ++ second))
  stopped_second first second p front =
      subst (AppendsFront a c)
      (sym (append_assoc p.gone between second) ∙ ap (λ t. t ++ second) p.all ∙ append_assoc before first second)
      (front_second a b c p.gone (between ++ second) p.appended front)

  pub streams_both : {T : Type 0} (first second : List ℕ) (result : Result T WriteAll) → IsPassedOn a b before between first
      → Streams b c between waiting result second → Streams a c before waiting result (first ++ second)
  streams_both first second (Ok u) p q = passed_both first second p q
  streams_both first second (Err error) p front = stopped_second first second p front

-- and so it is at an error in the first one
pub stopped_first : (old new : Option (List ℕ)) (before first second : List ℕ) → AppendsFront old new (before ++ first)
    → AppendsFront old new (before ++ (first ++ second))
stopped_first old new before first second front =
    subst (AppendsFront old new) (append_assoc before first second) (front_first old new (before ++ first) second front)

-- what waits in the end is written behind all that went before it
pub whole_written : {T : Type 0} (a b c : Option (List ℕ)) (before waiting text : List ℕ) (result : Result T WriteAll)
    → IsPassedOn a b before waiting text → WritesWhole b c result waiting → WritesWhole a c result (before ++ text)
whole_written a b c before waiting text (Ok u) p appended =
    subst (Appends a c) p.all (Appends-trans a b c p.gone waiting p.appended appended)
whole_written a b c before waiting text (Err errors.WriteFault) p front =
    subst (AppendsFront a c) p.all (front_second a b c p.gone waiting p.appended front)
whole_written a b c before waiting text (Err errors.NoMemory) p front =
    subst (AppendsFront a c) p.all (front_second a b c p.gone waiting p.appended front)

-- at an error a front of the text is written
pub front_written : (T : Type 0) (old new : Option (List ℕ)) (text : List ℕ) (error : WriteAll) → AppendsFront old new text
    → WritesWhole {T = T} old new (Err error) text
front_written T old new text errors.WriteFault front = front
front_written T old new text errors.NoMemory front = front

-- whatever is answered at the end
pub front_kept : (T U : Type 0) (old new : Option (List ℕ)) (text : List ℕ) (error : WriteAll)
    → WritesWhole {T = T} old new (Err error) text → WritesWhole {T = U} old new (Err error) text
front_kept T U old new text errors.WriteFault front = front
front_kept T U old new text errors.NoMemory front = front

module _ {A : Type 0} (f : A → List ℕ) (items : List A) (at : ℕ) (item : A) (within : at < length items)
    (is : item ≡ get_or items at item) where
  pieces_up_to : flat_map f (take (at + 1) items) ≡ flat_map f (take at items) ++ f item
  pieces_up_to =
      ap (flat_map f) (take_more items at item within)
      ∙ flat_map-append f (take at items) (get_or items at item ∷ [])
      ∙ ap (λ t. flat_map f (take at items) ++ t) (append-nil (f (get_or items at item)) ∙ ap f (sym is))

  pieces_behind : flat_map f items ≡ flat_map f (take at items) ++ (f item ++ flat_map f (drop (at + 1) items))
  pieces_behind =
      ap (flat_map f) (sym (take-append-drop (at + 1) items))
      ∙ flat_map-append f (take (at + 1) items) (drop (at + 1) items)
      ∙ ap (λ t. t ++ flat_map f (drop (at + 1) items)) pieces_up_to
      ∙ append_assoc (flat_map f (take at items)) (f item) (flat_map f (drop (at + 1) items))

  module _ (a b c : Option (List ℕ)) (before between waiting : List ℕ)
      (passed : IsPassedOn a b before between (flat_map f (take at items))) where
    -- the piece of one element more
    pub passed_more : IsPassedOn b c between waiting (f item) → IsPassedOn a c before waiting (flat_map f (take (at + 1) items))
    passed_more more =
        subst (IsPassedOn a c before waiting) (sym pieces_up_to)
        (passed_both a b c before between waiting (flat_map f (take at items)) (f item) passed more)

    -- an error in the piece of an element
    pub stopped_at : AppendsFront b c (between ++ f item) → AppendsFront a c (before ++ flat_map f items)
    stopped_at front =
        let rest = flat_map f (drop (at + 1) items) in
        subst (λ t. AppendsFront a c (before ++ t)) (sym pieces_behind)
        (stopped_second a b c before between waiting (flat_map f (take at items)) (f item ++ rest) passed
        (stopped_first b c between (f item) rest front))

-- the pieces of all elements, where the whole list was gone over
pub passed_whole : {A : Type 0} (f : A → List ℕ) (items : List A) (at : ℕ) → length items ≤ at
    → (a b : Option (List ℕ)) (before waiting : List ℕ) → IsPassedOn a b before waiting (flat_map f (take at items))
    → IsPassedOn a b before waiting (flat_map f items)
passed_whole f items at whole a b before waiting passed =
    subst (λ xs. IsPassedOn a b before waiting (flat_map f xs)) (take_all at items whole) passed
