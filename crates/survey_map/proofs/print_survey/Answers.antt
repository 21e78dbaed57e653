-- `survey_map::print_survey` meets its contract: what the reader reads lies in the program's own areas, and what it turns away it turns away by 16.
use Rattle.survey_map.specs.Areas.{own_lists}
use Rattle.survey_map.proofs.Held.{read_holding, held_text}
use Rattle.survey_map.proofs.Texts.{unread_text}
use Rattle.survey_map.proofs.print_survey.Goals as goal

pub survey_read-requires : goal.survey_read-requires
survey_read-requires c = read_holding _ _ _ _ c.in-Ok.ensures.ends

pub returns-in-Ok-clause-equation : goal.returns-in-Ok-clause-equation
returns-in-Ok-clause-equation c = rw (← held_text _ _ _ _ c.in-Ok.ensures.ends c.survey_read.ensures) c.print_fit.ensures.equation

pub returns-in-Ok-clause-longest : goal.returns-in-Ok-clause-longest
returns-in-Ok-clause-longest c = rw (← held_text _ _ _ _ c.in-Ok.ensures.ends c.survey_read.ensures) c.print_fit.ensures.longest

pub returns-in-Err-clause-equation : goal.returns-in-Err-clause-equation
unfolding own_lists
returns-in-Err-clause-equation c = rw (← unread_text _ _ _ c.in-Err.ensures.ends) c.write_refusal.ensures.equation

pub returns-in-Err-clause-longest : goal.returns-in-Err-clause-longest
unfolding own_lists
returns-in-Err-clause-longest c = rw (← unread_text _ _ _ c.in-Err.ensures.ends) c.write_refusal.ensures.longest
