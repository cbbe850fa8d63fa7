use Rattle.std.proofs.Common.{◌≡◌, ◌≤◌, ◌++◌, length, drop}
use Rattle.twe_base.specs.Language.{max_text_bytes}
use Rattle.summary_texts.specs.News.{bytes_of_news, news_of}
use Rattle.summary_texts.proofs.news.news_of.Given as goal

-- the new bytes so far, with those of what is left
abbrev pub invariant-loop-item : goal.invariant-loop-item
invariant-loop-item l = record {
  few : l.at ≤ l.item-index;
  count : l.total ≡ length (bytes_of_news l.news);
  short : l.total ≤ max_text_bytes;
  rest : l.news ++ news_of l.regions (drop l.at l.each) (drop l.item-index l.items) ≡ news_of l.regions l.each l.items;
}
