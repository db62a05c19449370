use Rattle.cap_blocks.proofs.Again.{section_again-law, interface_again-law, packet_again-law}
use Rattle.cap_blocks.proofs.Items.{items_from-none}
use Rattle.cap_blocks.proofs.OptionSplits.{every_options-law, options_read-law}
use Rattle.cap_blocks.proofs.Splitting.{one_block-law, one_split-law, every_split-law, split_items-law}
use Rattle.cap_blocks.proofs.Splitting.{items_at_fault-law, items_at_block-law, block_read-law, block_there-law}
use Rattle.cap_blocks.proofs.laws.grammar_laws.Goals as goal

pub returns-clause-block : goal.returns-clause-block
returns-clause-block c = one_block-law

pub returns-clause-one : goal.returns-clause-one
returns-clause-one c = one_split-law

pub returns-clause-every : goal.returns-clause-every
returns-clause-every c = every_split-law

pub returns-clause-items : goal.returns-clause-items
returns-clause-items c = split_items-law

pub returns-clause-at_none : goal.returns-clause-at_none
returns-clause-at_none c = items_from-none

pub returns-clause-at_fault : goal.returns-clause-at_fault
returns-clause-at_fault c = items_at_fault-law

pub returns-clause-at_block : goal.returns-clause-at_block
returns-clause-at_block c = items_at_block-law

pub returns-clause-spelled : goal.returns-clause-spelled
returns-clause-spelled c = block_read-law

pub returns-clause-there : goal.returns-clause-there
returns-clause-there c = block_there-law

pub returns-clause-section : goal.returns-clause-section
returns-clause-section c = section_again-law

pub returns-clause-interface : goal.returns-clause-interface
returns-clause-interface c = interface_again-law

pub returns-clause-packet : goal.returns-clause-packet
returns-clause-packet c = packet_again-law

pub returns-clause-every_options : goal.returns-clause-every_options
returns-clause-every_options c = every_options-law

pub returns-clause-options : goal.returns-clause-options
returns-clause-options c = options_read-law
