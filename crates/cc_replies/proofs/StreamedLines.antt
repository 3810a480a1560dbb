-- Lines that are written in pieces, one behind the other.
use Rattle.std.proofs.Common.{◌≡◌, ℕ, ◌<◌, ◌≤◌, List, [], ◌∷◌, ◌++◌, map, length, take, get_or, flat_map, Option, Result, sym, ap, ◌∙◌, subst, append_assoc, append-nil}
use Rattle.std.proofs.lemmas.List.Folds.{flat_map-map}
use Rattle.std.proofs.lemmas.Simd.{map-map}
use Rattle.cc_io.specs.declared.whole.WriteAll.{WriteAll}
use Rattle.cc_io.specs.Pieces.{IsPassedOn, Streams}
use Rattle.cc_io.specs.Wholes.{AppendsFront}
use Rattle.cc_io.proofs.PassedPieces.{stopped_first, stopped_second, streams_both, stopped_at, passed_whole}
use Rattle.std.proofs.lemmas.Grind.{flat_map-append}

-- the lines of all elements of a list
module _ {A B : Type 0} (f : List ℕ → List ℕ) (h : B → List ℕ) (g : A → B) (items : List A) where
  lines_mapped : flat_map (λ x. f (h (g x))) items ≡ flat_map f (map h (map g items))
  lines_mapped = sym (flat_map-map f (λ x. h (g x)) items) ∙ ap (flat_map f) (sym (map-map h g items))

  module _ (at : ℕ) (a b : Option (List ℕ)) (before between : List ℕ)
      (passed : IsPassedOn a b before between (flat_map (λ x. f (h (g x))) (take at items))) where
    -- the whole list was gone over
    pub lines_passed : length items ≤ at → IsPassedOn a b before between (flat_map f (map h (map g items)))
    lines_passed whole =
        subst (IsPassedOn a b before between) lines_mapped
        (passed_whole (λ x. f (h (g x))) items at whole a b before between passed)

    -- an error in the line of an element
    pub lines_stopped : (item : A) → at < length items → item ≡ get_or items at item → (c : Option (List ℕ))
        → AppendsFront b c (between ++ f (h (g item))) → AppendsFront a c (before ++ flat_map f (map h (map g items)))
    lines_stopped item within is c front =
        subst (λ t. AppendsFront a c (before ++ t)) lines_mapped
        (stopped_at (λ x. f (h (g x))) items at item within is a b c before between between passed front)

-- a first line, others, and a last one
module _ (f : List ℕ → List ℕ) (first last : List ℕ) (others : List (List ℕ)) (a b : Option (List ℕ)) (before between : List ℕ)
    (passed : IsPassedOn a b before between (f first)) where
  lines_behind_first : flat_map f (others ++ last ∷ []) ≡ flat_map f others ++ f last
  lines_behind_first = flat_map-append f others (last ∷ []) ∙ ap (λ t. flat_map f others ++ t) (append-nil (f last))

  pub others_stopped : (c : Option (List ℕ)) → AppendsFront b c (between ++ flat_map f others)
      → AppendsFront a c (before ++ flat_map f (first ∷ (others ++ last ∷ [])))
  others_stopped c front =
      stopped_second a b c before between between (f first) (flat_map f (others ++ last ∷ [])) passed
      (subst (λ t. AppendsFront b c (between ++ t)) (sym lines_behind_first)
      (stopped_first b c between (flat_map f others) (f last) front))

  pub last_streamed : {T : Type 0} (c d : Option (List ℕ)) (later waiting : List ℕ) (result : Result T WriteAll)
      → IsPassedOn b c between later (flat_map f others) → Streams c d later waiting result (f last)
      → Streams a d before waiting result (flat_map f (first ∷ (others ++ last ∷ [])))
  last_streamed c d later waiting result passed_others streams =
      streams_both a b d before between waiting (f first) (flat_map f (others ++ last ∷ [])) result passed
      (subst (Streams b d between waiting result) (sym lines_behind_first)
      (streams_both b c d between later waiting (flat_map f others) (f last) result passed_others streams))

-- lines of three kinds
module _ (f : List ℕ → List ℕ) (firsts middles lasts : List (List ℕ)) (a b : Option (List ℕ)) (before : List ℕ) where
  three_in_turn : flat_map f (firsts ++ middles ++ lasts) ≡ flat_map f firsts ++ (flat_map f middles ++ flat_map f lasts)
  three_in_turn =
      flat_map-append f (firsts ++ middles) lasts ∙ ap (λ t. t ++ flat_map f lasts) (flat_map-append f firsts middles)
      ∙ append_assoc (flat_map f firsts) (flat_map f middles) (flat_map f lasts)

  pub firsts_stopped : AppendsFront a b (before ++ flat_map f firsts) → AppendsFront a b (before ++ flat_map f (firsts ++ middles ++ lasts))
  firsts_stopped front =
      subst (λ t. AppendsFront a b (before ++ t)) (sym three_in_turn)
      (stopped_first a b before (flat_map f firsts) (flat_map f middles ++ flat_map f lasts) front)

  module _ (between : List ℕ) (passed : IsPassedOn a b before between (flat_map f firsts)) where
    pub middles_stopped : (c : Option (List ℕ)) → AppendsFront b c (between ++ flat_map f middles)
        → AppendsFront a c (before ++ flat_map f (firsts ++ middles ++ lasts))
    middles_stopped c front =
        subst (λ t. AppendsFront a c (before ++ t)) (sym three_in_turn)
        (stopped_second a b c before between between (flat_map f firsts) (flat_map f middles ++ flat_map f lasts) passed
        (stopped_first b c between (flat_map f middles) (flat_map f lasts) front))

    pub lasts_streamed : {T : Type 0} (c d : Option (List ℕ)) (later waiting : List ℕ) (result : Result T WriteAll)
        → IsPassedOn b c between later (flat_map f middles) → Streams c d later waiting result (flat_map f lasts)
        → Streams a d before waiting result (flat_map f (firsts ++ middles ++ lasts))
    lasts_streamed c d later waiting result passed_middles streams =
        subst (Streams a d before waiting result) (sym three_in_turn)
        (streams_both a b d before between waiting (flat_map f firsts) (flat_map f middles ++ flat_map f lasts) result passed
        (streams_both b c d between later waiting (flat_map f middles) (flat_map f lasts) result passed_middles streams))

-- three texts, one behind the other
module _ (first second third whole : List ℕ) (is : whole ≡ first ++ (second ++ third)) (a b : Option (List ℕ)) (before : List ℕ) where
  pub stopped_in_first : AppendsFront a b (before ++ first) → AppendsFront a b (before ++ whole)
  stopped_in_first stopped =
      subst (λ t. AppendsFront a b (before ++ t)) (sym is) (stopped_first a b before first (second ++ third) stopped)

  module _ (between : List ℕ) (passed : IsPassedOn a b before between first) where
    pub stopped_in_second : (c : Option (List ℕ)) → AppendsFront b c (between ++ second) → AppendsFront a c (before ++ whole)
    stopped_in_second c stopped =
        subst (λ t. AppendsFront a c (before ++ t)) (sym is)
        (stopped_second a b c before between between first (second ++ third) passed (stopped_first b c between second third stopped))

    pub streams_three : {T : Type 0} (c d : Option (List ℕ)) (later waiting : List ℕ) (result : Result T WriteAll)
        → IsPassedOn b c between later second → Streams c d later waiting result third → Streams a d before waiting result whole
    streams_three c d later waiting result passed_second streams =
        subst (Streams a d before waiting result) (sym is)
        (streams_both a b d before between waiting first (second ++ third) result passed
        (streams_both b c d between later waiting second third result passed_second streams))

-- the line of an element: what it is, its chain, and a line feed
pub line_in_three : (space element colon chain feed : List ℕ) → (space ++ (element ++ colon ++ chain)) ++ feed ≡ (space ++ element ++ colon) ++ (chain ++ feed)
line_in_three space element colon chain feed = simp append_assoc
