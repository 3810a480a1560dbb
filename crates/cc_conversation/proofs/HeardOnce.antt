-- What is heard in pieces has one answer, which stays.
use Rattle.std.proofs.Common.{◌≡◌, ◌⊎◌, inl, inr, ℕ, ◌==◌, Bool, true, false, List, [], ◌∷◌, ◌++◌, length, Option, Some, None, refl, sym, ap, subst, ◌∙◌, append_assoc, append-nil}
use Rattle.std.specs.Option.{option_map}
use Rattle.std.specs.Prelude.{if◌then◌else◌}
use Rattle.cc_words.proofs.LineLists.{lines_of-terminated, is_whole-terminated, terminated-lines_of, lines-lack}
use Rattle.cc_words.specs.Lines.{Line, lines_of, is_whole_behind, AreWholeLines}
use Rattle.cc_words.specs.Words.{cut_at}
use Rattle.cc_conversation.specs.ConversationLaws.{BytesHaveOneAnswer, HeardAnswersStay}
use Rattle.cc_conversation.specs.Conversations.{Standing, IsSpoken, IsHeard, with_part}
use Rattle.cc_conversation.proofs.SpokenOnce.{lines_have_one_answer, answers_stay}

-- lines behind whole ones
lines_behind : (front back : List ℕ) → AreWholeLines front → lines_of (front ++ back) ≡ lines_of front ++ lines_of back
lines_behind front back whole =
    ap (λ t. lines_of (t ++ back)) (sym (terminated-lines_of front whole)) ∙ lines_of-terminated (lines_of front) back (lines-lack front)

whole_then : (front back : List ℕ) → AreWholeLines front → AreWholeLines (front ++ back) → is_whole_behind true back ≡ true
whole_then front back whole both =
    sym (ap (λ t. is_whole_behind true (t ++ back)) (sym (terminated-lines_of front whole)) ∙ is_whole-terminated (lines_of front) back) ∙ both

-- bytes without a line feed are no whole lines
no_feed_tail : (b : Bool) (byte : ℕ) (bytes : List ℕ) → if◌then◌else◌ {A = Option (List ℕ × List ℕ)} b (Some ([], bytes)) (option_map {U = List ℕ × List ℕ} (λ cut. (byte ∷ cut.0, cut.1)) (cut_at 10 bytes)) ≡ None
    → (b ≡ false) × (cut_at 10 bytes ≡ None)
no_feed_tail true byte bytes e = cc
no_feed_tail false byte bytes e = (refl, at (cut_at 10 bytes) e)
  where
    at : (o : Option (List ℕ × List ℕ)) → option_map {U = List ℕ × List ℕ} (λ cut. (byte ∷ cut.0, cut.1)) o ≡ None → o ≡ None
    at None e = refl
    at (Some cut) e = cc

not_whole : (bytes : List ℕ) (whole : Bool) → whole ≡ false → cut_at 10 bytes ≡ None → is_whole_behind whole bytes ≡ false
not_whole [] whole so none = so
not_whole (byte ∷ bytes) whole so none =
    let tail = no_feed_tail (byte == 10) byte bytes none in
    not_whole bytes (byte == 10) tail.0 tail.1

whole_is_empty : (bytes : List ℕ) → cut_at 10 bytes ≡ None → is_whole_behind true bytes ≡ true → bytes ≡ []
whole_is_empty [] none whole = refl
whole_is_empty (byte ∷ bytes) none whole =
    let tail = no_feed_tail (byte == 10) byte bytes none in
    let clash : false ≡ true = sym (not_whole bytes (byte == 10) tail.0 tail.1) ∙ whole in
    cc

head_tail : {x y : ℕ} {xs ys : List ℕ} → x ∷ xs ≡ y ∷ ys → (x ≡ y) × (xs ≡ ys)
head_tail {x} {y} {xs} {ys} e = (cc, cc)

fronts : (front other rest behind : List ℕ) → front ++ rest ≡ other ++ behind
    → ((more : List ℕ) × (other ≡ front ++ more) × (rest ≡ more ++ behind)) ⊎ ((more : List ℕ) × (front ≡ other ++ more) × (behind ≡ more ++ rest))
fronts [] other rest behind e = inl (other, refl, e)
fronts (first ∷ front) [] rest behind e = inr (first ∷ front, refl, sym e)
fronts (first ∷ front) (second ∷ other) rest behind e =
    elim (fronts front other rest behind (head_tail e).1) [
      | inl it ↦ inl (it.0, λ i. sym (head_tail e).0 i ∷ it.1 i, it.2)
      | inr it ↦ inr (it.0, λ i. (head_tail e).0 i ∷ it.1 i, it.2)
    ]

none_front : (front rest : List ℕ) → cut_at 10 (front ++ rest) ≡ None → cut_at 10 front ≡ None
none_front [] rest none = refl
none_front (byte ∷ front) rest none =
    let tail = no_feed_tail (byte == 10) byte (front ++ rest) none in
    at (byte == 10) tail.0 (none_front front rest tail.1)
  where
    at : (b : Bool) → b ≡ false → cut_at 10 front ≡ None → if◌then◌else◌ {A = Option (List ℕ × List ℕ)} b (Some ([], front)) (option_map {U = List ℕ × List ℕ} (λ cut. (byte ∷ cut.0, cut.1)) (cut_at 10 front)) ≡ None
    at true so none = cc
    at false so none = ap (option_map {U = List ℕ × List ℕ} (λ cut. (byte ∷ cut.0, cut.1))) none

-- whole lines before a part are at the front of those that follow
whole_front : (whole part other behind : List ℕ) → AreWholeLines whole → cut_at 10 part ≡ None → AreWholeLines other → (more : List ℕ)
    → (whole ++ part) ++ more ≡ other ++ behind → cut_at 10 behind ≡ None → (left : List ℕ) × (other ≡ whole ++ left)
whole_front whole part other behind is none also more e lacks =
    elim (fronts whole other (part ++ more) behind (sym (append_assoc whole part more) ∙ e)) [
      | inl it ↦ (it.0, it.1)
      | inr it ↦
          let empty : it.0 ≡ [] =
          whole_is_empty it.0 (none_front it.0 (part ++ more) (subst (λ b. cut_at 10 b ≡ None) it.2 lacks))
          (whole_then other it.0 also (subst AreWholeLines it.1 is)) in
          ([], sym (append-nil other) ∙ ap (λ t. other ++ t) (sym empty) ∙ sym it.1 ∙ sym (append-nil whole))
    ]

-- two splits of the same bytes are one
one_split : (whole part other behind : List ℕ) → AreWholeLines whole → cut_at 10 part ≡ None → AreWholeLines other → cut_at 10 behind ≡ None
    → whole ++ part ≡ other ++ behind → (whole ≡ other) × (part ≡ behind)
one_split whole part other behind is none also lacks e =
    elim (fronts whole other part behind e) [
      | inl it ↦
          let empty : it.0 ≡ [] = whole_is_empty it.0 (none_front it.0 behind (subst (λ b. cut_at 10 b ≡ None) it.2 none)) (whole_then whole it.0 is (subst AreWholeLines it.1 also)) in
          (sym (append-nil whole) ∙ ap (λ t. whole ++ t) (sym empty) ∙ sym it.1, it.2 ∙ ap (λ t. t ++ behind) empty)
      | inr it ↦
          let empty : it.0 ≡ [] = whole_is_empty it.0 (none_front it.0 part (subst (λ b. cut_at 10 b ≡ None) it.2 lacks)) (whole_then other it.0 also (subst AreWholeLines it.1 is)) in
          (it.1 ∙ ap (λ t. other ++ t) empty ∙ append-nil other, sym (it.2 ∙ ap (λ t. t ++ part) empty))
    ]

pub bytes_have_one_answer : BytesHaveOneAnswer
bytes_have_one_answer bytes text other refused later standing second one two =
    let split = one_split one.whole one.part two.whole two.part one.are_whole one.no_feed two.are_whole two.no_feed (sym one.split ∙ two.split) in
    let same = lines_have_one_answer (lines_of one.whole) text other refused later one.before two.before one.spoken
    (subst (λ w. IsSpoken (lines_of w) other later two.before) (sym split.0) two.spoken) in
    (same.0, same.1, one.stands ∙ (λ i. with_part (same.2 i) (length (split.1 i))) ∙ sym two.stands)

pub heard_answers_stay : HeardAnswersStay
heard_answers_stay bytes more text other refused later standing second one two =
    let front = whole_front one.whole one.part two.whole two.part one.are_whole one.no_feed two.are_whole more (ap (λ t. t ++ more) (sym one.split) ∙ two.split) two.no_feed in
    answers_stay (lines_of one.whole) (lines_of front.0) text other refused later one.before two.before one.spoken
    (subst (λ ls. IsSpoken ls other later two.before) (ap lines_of front.1 ∙ lines_behind one.whole front.0 one.are_whole) two.spoken)
