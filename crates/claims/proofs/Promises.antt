-- Demands 1 and 3 of specs/Promises, filled, each field by its theorem. Assumes nothing.
use Rattle.past.specs.Sound.{sound_state_in_range}
use Rattle.claims.specs.Numbers.{decode_table, open_table, question_table}
use Rattle.claims.specs.Untouched.{refused_call_leaves_all, opening_clears}
use Rattle.claims.specs.Settled.{an_end_lasts}
use Rattle.ringout.specs.RingOut.{whatever_the_memories}
use Rattle.ringout.proofs.RingOut.{same_bits_used, rings_out_bit_for_bit, every_later_sample_bit_for_bit}
use Rattle.claims.proofs.Sharp.{rings_on_for_15_blocks}
use Rattle.claims.specs.Promises.{Demand1, Demand3}

pub demand_1 : Demand1
demand_1 =
    record {
      decode_has_its_number = λ c. decode_table c.stream c.memory c.output c.state;
      opening_has_its_number = open_table;
      question_has_its_number = question_table;
      no_call_leads_out_of_range = sound_state_in_range;
      an_end_is_one_for_ever = an_end_lasts;
      refused_leaves_all = λ c. refused_call_leaves_all c.stream c.memory c.output c.state;
      opening_clears_memory = opening_clears;
    }

pub demand_3 : Demand3
demand_3 =
    record {
      same_bits = same_bits_used;
      rings_out = rings_out_bit_for_bit;
      whatever_the_memories_hold = whatever_the_memories;
      rings_on = rings_on_for_15_blocks;
      every_later_sample = every_later_sample_bit_for_bit;
    }
