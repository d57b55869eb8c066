-- The example and some refusals, by the definitions.
-- Assumes nothing.
use mathlib.Core.Path.{◌≡◌, refl}
use mathlib.Core.List.{[]}
use Rattle.enforcement.specs.Automaton.{transitions, transitions_over}
use Rattle.enforcement.specs.Reason.{i_1}
use Rattle.enforcement.specs.Loading.{check_up_to, size_passes, header_passes, initial_passes, pairs_pass, layout_passes, fits_up_to, all_fit_up_to, overlap, overlaps_none, disjoint, disjoint_over}
use Rattle.product.specs.Encoding.{accepting_set, transitions_in, pairs_from, transitions_bytes}
use Rattle.product.specs.Product.{joints_of, joints, locations_from, joined}
use Rattle.product.specs.Joining.{i_9, i_12, i_13, of_first, of_second, written, refused, fitting, answer}
use Rattle.product.specs.Example.{first, second, both, three_commands, two_clocks, three_and_two}

pub joined_bytes : joined first second ≡ both
unfolding accepting_set transitions_in pairs_from transitions_bytes joints_of joints locations_from transitions
joined_bytes = refl

pub joined_answer : answer 518 first second ≡ written 100
unfolding accepting_set transitions_in pairs_from transitions_bytes joints_of joints locations_from transitions transitions_over answer fitting check_up_to size_passes header_passes initial_passes pairs_pass layout_passes fits_up_to all_fit_up_to overlap overlaps_none disjoint disjoint_over
joined_answer = refl

pub wrong_length : answer 517 [] [] ≡ refused i_9
unfolding accepting_set transitions_in pairs_from transitions_bytes joints_of joints locations_from transitions transitions_over answer fitting check_up_to size_passes header_passes initial_passes pairs_pass layout_passes fits_up_to all_fit_up_to overlap overlaps_none disjoint disjoint_over
wrong_length = refl

pub first_refused : answer 518 [] [] ≡ refused (of_first i_1)
unfolding accepting_set transitions_in pairs_from transitions_bytes joints_of joints locations_from transitions transitions_over answer fitting check_up_to size_passes header_passes initial_passes pairs_pass layout_passes fits_up_to all_fit_up_to overlap overlaps_none disjoint disjoint_over
first_refused = refl

pub second_refused : answer 518 first [] ≡ refused (of_second i_1)
unfolding accepting_set transitions_in pairs_from transitions_bytes joints_of joints locations_from transitions transitions_over answer fitting check_up_to size_passes header_passes initial_passes pairs_pass layout_passes fits_up_to all_fit_up_to overlap overlaps_none disjoint disjoint_over
second_refused = refl

pub other_commands : answer 518 first three_commands ≡ refused i_12
unfolding accepting_set transitions_in pairs_from transitions_bytes joints_of joints locations_from transitions transitions_over answer fitting check_up_to size_passes header_passes initial_passes pairs_pass layout_passes fits_up_to all_fit_up_to overlap overlaps_none disjoint disjoint_over
other_commands = refl

pub commands_before_clocks : answer 518 first three_and_two ≡ refused i_12
unfolding accepting_set transitions_in pairs_from transitions_bytes joints_of joints locations_from transitions transitions_over answer fitting check_up_to size_passes header_passes initial_passes pairs_pass layout_passes fits_up_to all_fit_up_to overlap overlaps_none disjoint disjoint_over
commands_before_clocks = refl

pub too_many_clocks : answer 518 first two_clocks ≡ refused i_13
unfolding accepting_set transitions_in pairs_from transitions_bytes joints_of joints locations_from transitions transitions_over answer fitting check_up_to size_passes header_passes initial_passes pairs_pass layout_passes fits_up_to all_fit_up_to overlap overlaps_none disjoint disjoint_over
too_many_clocks = refl
