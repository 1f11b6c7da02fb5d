-- The laws of edges, with those of results, guards and operands put in.
use Rattle.cell_steps.specs.Stores.{with_taken}
use Rattle.cell_laws.proofs.ResultLawsHold.{rising}
use Rattle.cell_laws.proofs.PartsRise.{taken_rises, flags_rise}
use Rattle.cell_laws.proofs.WalkLawsHold.{cell_laws}
use Rattle.cell_laws.specs.EdgeLaws.{EdgesAreWalked, PostsFit, PostsRise, ClearsStay, FlagsRise, PostsStand, ClearedIsntMet}
use Rattle.cell_laws.proofs.EdgesRise.{posts_rise, posts_fit, clears_stay}
use Rattle.cell_laws.proofs.EdgesAreSound.{edge_is_sound, posts_stand, cleared_isnt_met}

pub edges_are_walked : EdgesAreWalked
edges_are_walked p statement a x = edge_is_sound cell_laws p statement a x

pub posts_fit_owns : PostsFit
posts_fit_owns p statement a x cells f = posts_fit rising p statement a x cells f

pub all_posts_rise : PostsRise
all_posts_rise p statement a x less more f h = posts_rise rising p statement a x less more f h

pub all_clears_stay : ClearsStay
all_clears_stay p statement a x less more fault f h e = clears_stay rising p statement a x less more fault f h e

pub all_flags_rise : FlagsRise
all_flags_rise p a x place mode y less more h =
    flags_rise rising p a x (with_taken p a x less) (with_taken p a x more) (taken_rises rising p a x less more h) place mode y

pub all_posts_stand : PostsStand
all_posts_stand p statement a x cells bytes counts last sound stands h e = posts_stand cell_laws p statement a x cells bytes counts sound stands last h e

pub none_cleared_is_met : ClearedIsntMet
none_cleared_is_met p statement a x cells bytes counts fault sound stands e its h = cleared_isnt_met cell_laws p statement a x cells bytes counts sound stands fault e its h
