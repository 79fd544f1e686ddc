pub mod ArticleAnswers
