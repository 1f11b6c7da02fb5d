use Rattle.std.proofs.Common.{sym, ap, ◌∙◌}
use Rattle.cob_tree.specs.Keywords.{keyword_of}
use Rattle.cob_tree.specs.Words.{found_text}
use Rattle.cob_tree.proofs.KeywordLemmas.{keyword_of-text}
use Rattle.cob_tree.proofs.word.Word.keyword.Goals as goal

pub returns-in-Reserved : goal.returns-in-Reserved
returns-in-Reserved c =
    let keyword = c.in-Reserved.keyword in
    sym (ap keyword_of (sym c.self.view_is ∙ ap found_text c.in-Reserved.is) ∙ keyword_of-text keyword)
