-- The loop over what goes on an expression: where it ends, what it stops with, and what a turn of it leaves.
use Rattle.std.proofs.Common.{◌≡◌, ℕ, zero, suc, ◌<◌, ◌-◌, List, Some, Err, sym, ap, ◌∙◌, subst, arith}
use Rattle.cc_lex.specs.Lexemes.{PlacedLexeme}
use Rattle.cc_grammar.specs.Syntax.{ExprSyntax}
use Rattle.cc_grammar.specs.Reading.{Found, Got, High, ◌>>=◌, Readers, Link, link_at, links_at, next_link, behind_first}
use Rattle.cc_grammar.proofs.Rooms.{LeavesAtMost, link_at-most, links_at-high, links_at-some}
use Rattle.cc_parse.specs.declared.stop.Stop.{Stop}
use Rattle.cc_parse.specs.declared.stop.Stop.TheVariants as stops
use Rattle.cc_parse.specs.Agreement.{Agrees}

module _ (parts : Readers) (least : ℕ) where
  -- no room is spare for the link
  pub links-high : (expr : ExprSyntax) (spare : ℕ) (tokens : List PlacedLexeme) (link : Link) → next_link least expr tokens ≡ Some link → spare ≡ 0 → links_at parts least spare expr spare tokens ≡ High tokens
  links-high expr zero tokens link next none = links_at-high parts least expr tokens link next
  links-high expr (suc s) tokens link next none = absurd (omega arith)

  -- what goes on what a link made
  abbrev go_on : Found ExprSyntax → Found ExprSyntax
  go_on found = found >>= λ more less rest. links_at parts least less more less rest

  turn : (expr : ExprSyntax) (spare : ℕ) (tokens : List PlacedLexeme) (link : Link) → next_link least expr tokens ≡ Some link → 0 < spare → links_at parts least spare expr spare tokens ≡ go_on (link_at parts (spare - 1) expr link (behind_first tokens))
  turn expr zero tokens link next some = absurd (omega arith)
  turn expr (suc s) tokens link next some =
      let e : suc s - 1 ≡ s = omega arith in
      rw e (links_at-some parts least expr s tokens link next)

  module _ (expr : ExprSyntax) (spare : ℕ) (tokens rest : List PlacedLexeme) (link : Link) (next : next_link least expr tokens ≡ Some link) (some : 0 < spare) (behind : rest ≡ behind_first tokens) where
    here : links_at parts least spare expr spare tokens ≡ go_on (link_at parts (spare - 1) expr link rest)
    here = turn expr spare tokens link next some ∙ ap (λ ts. go_on (link_at parts (spare - 1) expr link ts)) (sym behind)

    -- a link is refused
    pub links-stops : {A : Type 0} (view : A → ExprSyntax) (stop : Stop) → Agrees view (Err stop) (link_at parts (spare - 1) expr link rest) → Agrees view (Err stop) (links_at parts least spare expr spare tokens)
    links-stops view (stops.Wrong left) found = here ∙ ap go_on found
    links-stops view (stops.High left) found = here ∙ ap go_on found
    links-stops view stops.NoMemory found = tt

    -- a link is read
    module _ (more : ExprSyntax) (less : ℕ) (left : List PlacedLexeme) (found : link_at parts (spare - 1) expr link rest ≡ Got more less left) where
      pub links-go_on : links_at parts least less more less left ≡ links_at parts least spare expr spare tokens
      links-go_on = sym (here ∙ ap go_on found)

      pub links-fall : less < spare
      links-fall =
          let most : LeavesAtMost (spare - 1) (Got more less left) = subst (LeavesAtMost (spare - 1)) found (link_at-most parts (spare - 1) expr link rest) in
          omega (arith, most)
