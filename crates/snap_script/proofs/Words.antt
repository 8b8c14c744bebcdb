-- The commands in one table, the calls before the others.
use Rattle.std.proofs.Common.{◌≡◌, ℕ, Bool, true, false, List, [], ◌∷◌, ◌++◌, map, cond, Option, Some, refl, ap, ◌∙◌}
use Rattle.std.specs.Prelude.{find}
use Rattle.std.specs.Option.{option_map, option_or}
use Rattle.std.specs.Map.{lookup}
use Rattle.std.specs.Str.{bytes_eq}
use Rattle.snap_history.specs.declared.kind.CallKind.{CallKind}
use Rattle.snap_history.specs.Entries.{call_word}
use Rattle.snap_script.specs.Near.{is_near}
use Rattle.snap_script.specs.Words.{calls, words, verb_of, near_command}
use Rattle.snap_script.specs.declared.verb.Verb.{Verb}
use Rattle.snap_script.specs.declared.verb.Verb.TheVariants as verbs

-- the commands by their words
abbrev pub table : List (List ℕ × Verb)
table = map (λ call. (call_word call, verbs.Call call)) calls ++ words

hit : (b : Bool) (call : CallKind) (more : Option CallKind) (rest : Option Verb)
    → cond b (Some (verbs.Call call)) (option_or (option_map verbs.Call more) rest) ≡ option_or (option_map verbs.Call (cond b (Some call) more)) rest
hit true call more rest = refl
hit false call more rest = refl

looked_up_in : (test : List ℕ → Bool) (cs : List CallKind) (rest : List (List ℕ × Verb))
    → lookup test (map (λ call. (call_word call, verbs.Call call)) cs ++ rest) ≡ option_or (option_map verbs.Call (lookup test (map (λ call. (call_word call, call)) cs))) (lookup test rest)
looked_up_in test [] rest = refl
looked_up_in test (call ∷ cs) rest = ap (λ (o : Option Verb). cond (test (call_word call)) (Some (verbs.Call call)) o) (looked_up_in test cs rest) ∙ hit (test (call_word call)) call _ _

-- the verb of a word is that of the table
pub looked_up : (word : List ℕ) → lookup (bytes_eq word) table ≡ verb_of word
unfolding verb_of
looked_up word = looked_up_in (bytes_eq word) calls words

near_hit : (b : Bool) (word : List ℕ) (more rest : Option (List ℕ)) → cond b (Some word) (option_or more rest) ≡ option_or (cond b (Some word) more) rest
near_hit true word more rest = refl
near_hit false word more rest = refl

found_in : (test : List ℕ → Bool) (cs : List CallKind) (rest : List (List ℕ × Verb))
    → find test (map (λ p. p.0) (map (λ call. (call_word call, verbs.Call call)) cs ++ rest)) ≡ option_or (find test (map call_word cs)) (find test (map (λ p. p.0) rest))
found_in test [] rest = refl
found_in test (call ∷ cs) rest = ap (λ (o : Option (List ℕ)). cond (test (call_word call)) (Some (call_word call)) o) (found_in test cs rest) ∙ near_hit (test (call_word call)) (call_word call) _ _

-- the first near word is that of the table
pub found : (word : List ℕ) → find (λ known. is_near known word) (map (λ p. p.0) table) ≡ near_command word
unfolding near_command
found word = found_in (λ known. is_near known word) calls words
