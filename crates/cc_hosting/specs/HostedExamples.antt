-- Worked runs on the devices of a host, by the rules in force: main of the module app, which prints 5 by line of the module
-- lib, that names the console.
use Rattle.std.specs.Prelude.{◌≡◌, ℕ, Bool, true, false, codes, List, [], ◌∷◌, Option, Some, None}
use Rattle.std.specs.List.{flat_map}
use Rattle.cc_entry_laws.specs.ExampleEntries.{two_texts, main_entry}
use Rattle.cc_hosting.specs.HostedRuns.{hosted}
use Rattle.cc_live.specs.LiveRuns.{Standing, Over, Waits, Breaks}
use Rattle.cc_policy.specs.declared.policy.Rule.{Rule}
use Rattle.cc_replies.specs.ReplyTexts.{line}
use Rattle.cc_words.specs.Lines.{Line}

-- a rule about a module and a device, where None is any
abbrev pub rule : Bool → Option (List ℕ) → Option (List ℕ) → Rule
rule allow owner device = record { allow = allow; «module» = owner; device = device }

-- By these rules the lines of the host are answered so, and the run stands so.
abbrev pub Answers : List Rule → List Line → List Line → Standing → Type 0
Answers rules said told standing =
    hosted (codes "out" ∷ []) rules two_texts (codes "app") (codes "main") 100 main_entry said
    ≡ record { text = flat_map line told; standing = standing }

-- The module of the definition must be allowed each device that it may operate, and then each linked module what its own text
-- names. No line of the host is taken where the run is refused.
pub record RulesBindEachModule : Type 0 where
  pub no_rule : Answers [] (codes "ok" ∷ []) (codes "live app.main refused E37" ∷ []) (Over true (codes "ok" ∷ []))
  pub not_the_definition :
      Answers (rule true (Some (codes "lib")) None ∷ []) [] (codes "live app.main refused E37" ∷ []) (Over true [])
  pub not_the_other :
      Answers (rule true (Some (codes "app")) None ∷ []) (codes "ok" ∷ [])
      (codes "live app.main refused E38 lib out" ∷ [])
      (Over true (codes "ok" ∷ []))
  pub denied_to_the_other :
      Answers (rule false (Some (codes "lib")) (Some (codes "out")) ∷ rule true None None ∷ []) []
      (codes "live app.main refused E38 lib out" ∷ [])
      (Over true [])

-- Else the run is told, line by line, and the rules that are about nothing that is there.
pub record PermittedRunsAreTold : Type 0 where
  pub answered :
      Answers (rule true None (Some (codes "out")) ∷ []) (codes "ok" ∷ codes "next" ∷ [])
      (codes "live app.main" ∷ codes "  authority {out}" ∷ codes "  out print 5" ∷ codes "  done unit after 4 steps" ∷ [])
      (Over false (codes "next" ∷ []))
  pub waiting :
      Answers (rule true None None ∷ []) []
      (codes "live app.main" ∷ codes "  authority {out}" ∷ codes "  out print 5" ∷ [])
      Waits
  pub stopped :
      Answers (rule true None None ∷ []) (codes "stop" ∷ [])
      (codes "live app.main" ∷ codes "  authority {out}" ∷ codes "  out print 5" ∷ codes "  stopped after 3 steps" ∷ [])
      (Over true [])
  pub broken :
      Answers (rule true None None ∷ []) (codes "5" ∷ codes "ok" ∷ [])
      (codes "live app.main" ∷ codes "  authority {out}" ∷ codes "  out print 5" ∷ [])
      (Breaks (codes "ok" ∷ []))
  pub unused :
      Answers
      (rule false (Some (codes "ghost")) None ∷ rule true (Some (codes "app")) (Some (codes "out"))
      ∷ rule false None (Some (codes "keys")) ∷ rule true None None ∷ []) []
      (codes "live app.main" ∷ codes "  authority {out}" ∷ codes "  unused rule 1" ∷ codes "  unused rule 3"
      ∷ codes "  out print 5" ∷ [])
      Waits
