use Rattle.command_line.proofs.ParseLemmas.{options_no_fault, listing_no_fault, one_search, one_listing, run_no_fault, others_no_match, numbers_decimal}
use Rattle.command_line.proofs.laws.options_have_no_fault.Goals as goal

pub returns-clause-options : goal.returns-clause-options
returns-clause-options c = options_no_fault

pub returns-clause-listings : goal.returns-clause-listings
returns-clause-listings c = listing_no_fault

pub returns-clause-one_search : goal.returns-clause-one_search
returns-clause-one_search c = one_search

pub returns-clause-one_list : goal.returns-clause-one_list
returns-clause-one_list c = one_listing

pub returns-clause-runs : goal.returns-clause-runs
returns-clause-runs c = run_no_fault

pub returns-clause-others : goal.returns-clause-others
returns-clause-others c = others_no_match

pub returns-clause-numbers : goal.returns-clause-numbers
returns-clause-numbers c = numbers_decimal
