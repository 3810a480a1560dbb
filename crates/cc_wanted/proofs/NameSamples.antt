-- The names that are tried are names, and trying one behind the other tells whether one of them goes on.
use Rattle.std.proofs.Common.{◌≡◌, ◌∙◌, ℕ, Bool, true, false, ◌||◌, List, codes, refl, ap}
use Rattle.std.specs.Str.{chars}
use Rattle.unicode_ident.proofs.Computing.{unicode_ident}
use Rattle.cc_base.specs.Names.{is_reserved, reserved_words, IsName}
use Rattle.cc_lex.specs.declared.token.Tokens.{Tokens}
use Rattle.cc_lex.specs.Lexemes.{Lexeme, NameLexeme, placed_all}
use Rattle.cc_wanted.specs.declared.kind.Kind.TheVariants as kinds
use Rattle.cc_wanted.specs.Trying.{goes_on, goes_on_with}
use Rattle.cc_wanted.specs.Tries.{Tells}

pub record AreNames : Type 0 where
  pub other : IsName (chars (codes "x"))
  pub print : IsName (chars (codes "print"))
  pub say : IsName (chars (codes "say"))
  pub read : IsName (chars (codes "read"))
  pub write : IsName (chars (codes "write"))
  pub tick : IsName (chars (codes "tick"))

pub are_names : AreNames
unfolding unicode_ident is_reserved reserved_words chars
are_names = record { other = refl; print = refl; say = refl; read = refl; write = refl; tick = refl }

-- one try behind another
then_tells : (a b c : Tokens) (was answer told : Bool) (l : Lexeme) → Tells a b was told → Tells b c answer (was || goes_on (placed_all b.tokens.items) l) → Tells a c answer (told || goes_on (placed_all a.tokens.items) l)
then_tells a b c was answer told l f g = record {
  answered = g.answered ∙ ap (λ w. w || goes_on (placed_all b.tokens.items) l) f.answered ∙ ap (λ x. told || goes_on (placed_all x) l) f.tokens;
  tokens = g.tokens ∙ f.tokens;
  end = g.end ∙ f.end;
}

regrouped : (a b c d e f : Bool) → (((((a || b) || c) || d) || e) || f) ≡ (a || (b || (c || (d || (e || (f || false))))))
regrouped true b c d e f = refl
regrouped false true c d e f = refl
regrouped false false true d e f = refl
regrouped false false false true e f = refl
regrouped false false false false true f = refl
regrouped false false false false false true = refl
regrouped false false false false false false = refl

-- the name of this text goes on
abbrev pub name_goes_on : Tokens → List ℕ → Bool
name_goes_on tokens text = goes_on (placed_all tokens.tokens.items) (NameLexeme text)

-- the tries of all names
pub names_tell : {a b c d e f g : Tokens} {r s t u v w : Bool} → Tells a b r (name_goes_on a (codes "x")) → Tells b c s (r || name_goes_on b (codes "print")) → Tells c d t (s || name_goes_on c (codes "say")) → Tells d e u (t || name_goes_on d (codes "read")) → Tells e f v (u || name_goes_on e (codes "write")) → Tells f g w (v || name_goes_on f (codes "tick")) → Tells a g w (goes_on_with (placed_all a.tokens.items) kinds.Name)
names_tell {a = a} {b = b} {c = c} {d = d} {e = e} {f = f} {g = g} {r = r} {s = s} {t = t} {u = u} {v = v} {w = w} one two three four five six =
    let x : Bool = name_goes_on a (codes "x") in
    let print : Bool = name_goes_on a (codes "print") in
    let say : Bool = name_goes_on a (codes "say") in
    let read : Bool = name_goes_on a (codes "read") in
    let write : Bool = name_goes_on a (codes "write") in
    let tick : Bool = name_goes_on a (codes "tick") in
    let second = then_tells a b c r s x (NameLexeme (codes "print")) one two in
    let third = then_tells a c d s t (x || print) (NameLexeme (codes "say")) second three in
    let fourth = then_tells a d e t u ((x || print) || say) (NameLexeme (codes "read")) third four in
    let fifth = then_tells a e f u v (((x || print) || say) || read) (NameLexeme (codes "write")) fourth five in
    let sixth = then_tells a f g v w ((((x || print) || say) || read) || write) (NameLexeme (codes "tick")) fifth six in
    record { answered = sixth.answered ∙ regrouped x print say read write tick; tokens = sixth.tokens; end = sixth.end }
