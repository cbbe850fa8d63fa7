-- The number of workers and the size of a load that words mean are in their ranges.
use Rattle.std.proofs.Common.{◌≡◌, ◌≤◌, ◌&&◌, ℕ, List, [], ◌∷◌, Some, nat_le, ap, subst, leb-true, length, arith}
use Rattle.std.proofs.lemmas.Option.{cond_some}
use Rattle.clap.proofs.WalkLemmas.{both}
use Rattle.command_line.specs.declared.command.Command.{Command}
use Rattle.command_line.specs.Numbers.{is_number_word, number_between, number_of_word}
use Rattle.command_line.specs.Options.{Item, Choice, AreOptions, no_more, value_beside, value_inside, flagged, sized, sizes, number_or, max_load, max_workers}
use Rattle.command_line.specs.declared.setting.Setting.TheVariants.{Workers, Fuel, Tasks}
use Rattle.command_line.specs.Words as words
use Rattle.command_line.specs.Words.{Means, IsSized}

-- a number between two others is in their range
pub in_range : (least most : ℕ) (word : List ℕ) (number : ℕ) → number_between least most word ≡ Some number → (least ≤ number) × (number ≤ most)
in_range least most word number e =
    let found = cond_some (is_number_word word && (nat_le least (number_of_word word) && nat_le (number_of_word word) most)) (number_of_word word) number e in
    let range = both (nat_le least (number_of_word word)) (nat_le (number_of_word word) most) (both (is_number_word word) (nat_le least (number_of_word word) && nat_le (number_of_word word) most) found.0).1 in
    subst (λ (n : ℕ). (least ≤ n) × (n ≤ most)) found.1 (leb-true least (number_of_word word) range.0, leb-true (number_of_word word) most range.1)

-- the first of the sizes
abbrev first_of : ℕ → List ℕ → ℕ
first_of n [] = n
first_of n (m ∷ ms) = m

sizes_in_range : {items : List Item} {them : List (List ℕ)} {choices : List Choice} → AreOptions items them choices → (n : ℕ) → sizes choices ≡ n ∷ [] → (1 ≤ n) × (n ≤ max_load)
sizes_in_range no_more n e = absurd (omega (arith, ap (λ (xs : List ℕ). length xs) e))
sizes_in_range (value_beside setting value number among is rest) n e = sizes_in_range rest n e
sizes_in_range (value_inside setting value number among is rest) n e = sizes_in_range rest n e
sizes_in_range (flagged among rest) n e = sizes_in_range rest n e
sizes_in_range (sized value number among is rest) n e = subst (λ (m : ℕ). (1 ≤ m) × (m ≤ max_load)) (ap (first_of number) e) (in_range 1 max_load value number is)

workers_in_range : {items : List Item} {them : List (List ℕ)} {choices : List Choice} → AreOptions items them choices → number_or 0 Workers choices ≤ max_workers
workers_in_range no_more = omega arith
workers_in_range (value_beside Workers value number among is rest) = (in_range 0 max_workers value number is).1
workers_in_range (value_beside Fuel value number among is rest) = workers_in_range rest
workers_in_range (value_beside Tasks value number among is rest) = workers_in_range rest
workers_in_range (value_inside Workers value number among is rest) = (in_range 0 max_workers value number is).1
workers_in_range (value_inside Fuel value number among is rest) = workers_in_range rest
workers_in_range (value_inside Tasks value number among is rest) = workers_in_range rest
workers_in_range (flagged among rest) = workers_in_range rest
workers_in_range (sized value number among is rest) = workers_in_range rest

pub means_sized : {them : List (List ℕ)} {command : Command} → Means them command → IsSized command
means_sized words.Means.check = tt
means_sized (words.Means.run them choices options once) = workers_in_range options
means_sized (words.Means.replay them choices options once) = tt
means_sized (words.Means.load them choices n options once one) =
    let range = sizes_in_range options n one in
    (workers_in_range options, range.0, range.1)
