use Rattle.std.proofs.Common.{◌∙◌}
use Rattle.rev_import.proofs.Rows.{adds_row, crawl_start_row}
use Rattle.rev_import.proofs.writing.put_crawl_start.Goals as goal

pub returns : goal.returns
returns g c =
    adds_row c.put_words.result _ _ _ _ c.put_words.ensures (crawl_start_row _ _ c.requires (c.as_bytes.ensures.value ∙ c.format.ensures.text))
